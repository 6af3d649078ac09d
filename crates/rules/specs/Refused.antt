-- The refusals of the code as document 01's numbers and places.
-- Assumes nothing.
use Rattle.std.specs.Prelude.{Result, Ok, Err}
use Rattle.rules.specs.Refusals.{Verdict, refused_at, passed}
use Rattle.rules.specs.declared.refusal.Refusal.{Refusal}
use Rattle.rules.specs.declared.refusal.Refusal.TheVariants.{Tables, Section, Doubled, Degree, Turn, SecondTurn, Length, Start, Finish, Room, Labels, NoRoute, Buffer, NoTurn, NoPullOut, Claim, Label, StartLabel, File}

-- [Refusal numbers] the number and the place of each refusal
abbrev pub verdict_of : Refusal → Verdict
verdict_of Tables = refused_at 1 0
verdict_of (Section s) = refused_at 2 s
verdict_of (Doubled s) = refused_at 3 s
verdict_of (Degree p) = refused_at 4 p
verdict_of (Turn t) = refused_at 5 t
verdict_of (SecondTurn t) = refused_at 6 t
verdict_of Length = refused_at 7 0
verdict_of Start = refused_at 8 0
verdict_of Finish = refused_at 9 0
verdict_of Room = refused_at 10 0
verdict_of Labels = refused_at 11 0
verdict_of NoRoute = refused_at 12 0
verdict_of Buffer = refused_at 14 0
verdict_of NoTurn = refused_at 15 0
verdict_of NoPullOut = refused_at 16 0
verdict_of Claim = refused_at 17 0
verdict_of (Label a) = refused_at 18 a
verdict_of StartLabel = refused_at 19 0
verdict_of (File b) = refused_at 20 b

-- [Refusal numbers] the number and the place of what is refused, or that it is not
abbrev pub verdict_in : {A : Type 0} → Result A Refusal → Verdict
verdict_in (Ok x) = passed
verdict_in (Err r) = verdict_of r
