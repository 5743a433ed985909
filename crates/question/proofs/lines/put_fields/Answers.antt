-- `question::lines::put_fields` meets its contract: a turn puts one field, which fits. Assumes nothing.
use native.Mathlib.Nat.{le_trans}
use mir.Syntax.{w64}
use mir.Val.{SFits}
use mir.Facts.{to_z-of_z}
use Rattle.std.proofs.Common.{◌+◌, ◌≤◌, length, drop, get_or, pos, rules, arith}
use Rattle.whole.proofs.Runs.{rest, no_rest}
use Rattle.question.specs.Lines.{field}
use Rattle.question.proofs.LineLaws.{field_long, next_fits, one_less_lem, none_left}
use Rattle.question.proofs.lines.put_fields.Goals as goal

pub put_field-to-requires : goal.put_field-to-requires
put_field-to-requires c =
    let n = c.args.fields.now in
    let l = c.loop-z in
    let i = c.loop-z-test.true in
    let f : SFits w64 (get_or n l.z-index (pos 0)) = search rules in
    let g = next_fits _ _ n _ l.to l.z-index _ c.requires.fields_len_bound l.invariant.far l.invariant.left _ _ (rest n l.z-index (pos 0) i) i (field_long _ f) in
    rw (to_z-of_z f, l.auto.out) (le_trans g c.requires.most_fields_in_bounds)

pub loop-z-preserved : goal.loop-z-preserved
loop-z-preserved c =
    let a = c.args in
    let n = a.fields.now in
    let l = c.loop-z in
    let i = c.loop-z-test.true in
    let f : SFits w64 (get_or n l.z-index (pos 0)) = search rules in
    let e = rw (to_z-of_z f) at c.put_field-to.ensures in
    let r = rest n l.z-index (pos 0) i in
    let g = next_fits _ _ n _ l.to l.z-index _ c.requires.fields_len_bound l.invariant.far l.invariant.left _ _ r i (field_long _ f) in
    let h : l.to + length (field (get_or n l.z-index (pos 0))) ≤ length l.out = rw l.auto.out (le_trans g c.requires.most_fields_in_bounds) in
    record {
      far = λ t. omega (arith, e.place, l.invariant.far t, field_long _ f);
      left = one_less_lem a.out.now a.at n l.out _ l.to _ (get_or n l.z-index (pos 0)) (drop (l.z-index + 1) n) (drop l.z-index n) r h e.place e.text l.invariant.left;
    }

pub returns-clause-text : goal.returns-clause-text
returns-clause-text c =
    let a = c.args in
    (none_left a.out.now a.at a.fields.now _ _ _ (no_rest a.fields.now c.loop-z.z-index c.loop-z-test.false) c.loop-z.invariant.left).1
