-- `rule::rules_kept` meets its contract: the rules are those of the row's end and of its two steps.
-- Assumes nothing.
use Rattle.std.proofs.Common.{false, sym, ◌∙◌}
use mathlib.Core.Bool.{false≢true}
use Rattle.rules.proofs.Lists.{any_default}
use Rattle.rules.specs.Net.{no_distance}
use Rattle.rules.specs.declared.net.Row.{Row}
use Rattle.sheet.proofs.Following.{row_read}
use Rattle.sheet.proofs.Keeping.{row_rules}
use Rattle.sheet.proofs.rule.rules_kept.Goals as goal
use Rattle.sheet.proofs.rule.rules_kept.Goals.{then-end_kept, else-end_kept}

-- what a read past the rows would give
abbrev blank : Row
blank = record { first = record { next = 0; cost = 0 }; second = record { next = 0; cost = 0 }; ends = false }

pub returns-then-step_kept : goal.returns-then-step_kept
returns-then-step_kept c =
    let low = c.requires in
    λ t L m.
    let R = row_rules c.args.labels.now L low.one_each low.in_bounds (row_read c.args.net.now.rows.now c.args.a blank (rw low.one_each at low.in_bounds))
    (sym (any_default c.args.labels.now c.args.a no_distance 0 low.in_bounds)) m in
    elim c.if-end_kept.branch [
      | then-end_kept w ↦ (
        λ r. R.0 (c.end_kept.ensures.0 w.if-end_kept.true) (w.step_kept.ensures.0 (sym w.value-is ∙ c.if-step_kept.true)) (c.step_kept-then-step_kept.ensures.0 r),
        λ k. c.step_kept-then-step_kept.ensures.1 (R.1 k).2,
      )
      | else-end_kept w ↦ absurd (false≢true (sym w.if-end_kept.false ∙ sym w.value-is ∙ c.if-step_kept.true))
    ]

pub returns-else-step_kept : goal.returns-else-step_kept
returns-else-step_kept c =
    let low = c.requires in
    λ t L m.
    let R = row_rules c.args.labels.now L low.one_each low.in_bounds (row_read c.args.net.now.rows.now c.args.a blank (rw low.one_each at low.in_bounds))
    (sym (any_default c.args.labels.now c.args.a no_distance 0 low.in_bounds)) m in
    elim c.if-end_kept.branch [
      | then-end_kept w ↦ (
        λ r. absurd (false≢true (sym c.if-step_kept.false ∙ r)),
        λ k. w.value-is ∙ w.step_kept.ensures.1 (R.1 k).1,
      )
      | else-end_kept w ↦ (
        λ r. absurd (false≢true (sym c.if-step_kept.false ∙ r)),
        λ k. absurd (false≢true (sym w.if-end_kept.false ∙ c.end_kept.ensures.1 (R.1 k).0)),
      )
    ]
