-- `frames::framed_by` meets its contract: straight-line code that mirrors the definition, and the test of its number. Assumes nothing.
use mathlib.Core.Path.{◌≡◌, refl, sym, ◌∙◌}
use mir.Facts.{to_z-of_z}
use borrow.Author.Tests.{ne_eqb}
use Rattle.whole.specs.Choice.{or_else}
use Rattle.frames.specs.Frames.{entry_refusal, framed_by}
use borrow.Author.Rules.{rules}
use Rattle.frames.proofs.framed_by.Statement.{statement}
use Rattle.frames.proofs.framed_by.Tie as tie

within_requires : tie.Need-within-requires
within_requires c κs = search rules

within_requires_2 : tie.Need-within-requires-2
within_requires_2 c κs = search rules

unless_requires : tie.Need-unless-place-requires
unless_requires c κs = search rules

within_requires_3 : tie.Need-within-requires-3
within_requires_3 c κs = search rules

unless_requires_2 : tie.Need-unless-form-requires
unless_requires_2 c κs = search rules

or_else_requires : tie.Need-or_else-k-requires
or_else_requires c κs = search rules

-- the number of the refusal
number : (c : tie.After-or_else-k) → let a = c.args in or_else a.before (entry_refusal a.kind a.day a.hour) ≡ c.or_else-k.result
number c =
    let v = c in
    let w = v in
    let u = w in
    let f = u.ranges in
    sym (rw (v.unless-form.ensures, w.within-3.ensures, u.unless-place.ensures, u.within-2.ensures, u.within.ensures, to_z-of_z f.kind, to_z-of_z f.day, to_z-of_z f.hour) at c.or_else-k.ensures)

no_entry_requires : tie.Need-no_entry-requires
no_entry_requires c κs = search rules

single_requires : tie.Need-single-requires
single_requires c κs = search rules

returns : tie.Need-returns-then-k-ne0
unfolding framed_by
returns c =
    let e = c in
    let t = e in
    c.single.ensures ∙ rw (number t.before.before.before, ne_eqb _ _ t.if-k-ne0.true, e.no_entry.ensures) refl

byte_of_requires : tie.Need-byte_of-requires
byte_of_requires c κs = search rules

byte_of_requires_2 : tie.Need-byte_of-requires-2
byte_of_requires_2 c κs = search rules

byte_of_requires_3 : tie.Need-byte_of-requires-3
byte_of_requires_3 c κs = search rules

single_requires_2 : tie.Need-single-requires-2
single_requires_2 c κs = search rules

returns_2 : tie.Need-returns
unfolding framed_by
returns_2 c =
    let z = c in
    let y = z in
    let x = y in
    let l = x in
    let f = l.ranges in
    c.single-2.ensures
    ∙ rw (number l.before.before.before.before.before, l.if-k-ne0.false, to_z-of_z f.amount, z.byte_of-3.ensures, y.byte_of-2.ensures, x.byte_of.ensures, to_z-of_z f.kind, to_z-of_z f.day, to_z-of_z f.hour)

pub framed_by_spec : {M : Type 1} → statement M
framed_by_spec =
    tie.close
    (tie.spec
    within_requires
    within_requires_2
    unless_requires
    within_requires_3
    unless_requires_2
    or_else_requires
    no_entry_requires
    single_requires
    returns
    byte_of_requires
    byte_of_requires_2
    byte_of_requires_3
    single_requires_2
    returns_2)
