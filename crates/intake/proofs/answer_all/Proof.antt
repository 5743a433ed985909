-- `intake::answer_all` meets its contract. The loop's invariant: the lines that are left, answered from here, give what all of them give; and
-- each byte of the chunk has left twelve of the run. Assumes nothing.
use Prim.Native.Nat.{◌+◌, ◌*◌, ◌-◌, ◌≤◌}
use native.Mathlib.Omega.{arith}
use mathlib.Core.Path.{◌≡◌, refl, sym, ap, ◌∙◌}
use lib.ListN.{length, take, drop}
use borrow.Author.Rules.{rules}
use mir.Syntax.{w64}
use mir.Val.{Fits}
use Rattle.lines.specs.Lines.{before_end}
use Rattle.intake.specs.declared.Line.{Line}
use Rattle.intake.specs.Inner.{held_in, kept_in, lines_in, left_in}
use Rattle.book.specs.Book.{Book}
use Rattle.intake.specs.Answers.{answer_to, answers_to}
use Rattle.book.specs.Inner.{book_of, cover_of}
use Rattle.intake.proofs.Going.{Left, left_start, left_line, left_all, left_go, left_stop}
use Rattle.intake.proofs.answer_all.Statement.{statement}
use Rattle.intake.proofs.answer_all.Tie as tie

abbrev invariant_loop : tie.invariant-loop-end
invariant_loop chunk marks₀ amounts₀ out₀ cover₀ line₀ from₀ at₀ end₀ marks amounts out cover line from at end =
    (length marks ≡ length marks₀) × (length amounts ≡ length amounts₀) × (length out ≡ length out₀) × (from ≤ length chunk)
    × (end ≡ from + length (before_end (drop from chunk))) × (at ≤ 12 * from)
    × Left (book_of cover₀ marks₀ amounts₀) (lines_in line₀ chunk) out₀ 0 (book_of cover marks amounts) (lines_in line (drop from chunk)) out at
    × (left_in line₀ chunk ≡ left_in line (drop from chunk))

abbrev decreases_loop : tie.decreases-loop-end
decreases_loop chunk marks₀ amounts₀ out₀ cover₀ line₀ from₀ at₀ end₀ marks amounts out cover line from at end =
    length chunk - from

-- the place after a line end
further : (c : tie.In-loop-end invariant_loop decreases_loop) → Fits w64 (c.loop-end.end + 1)
further c = omega arith

line_end_requires : tie.Need-line_end-end-requires invariant_loop decreases_loop
line_end_requires c κs = omega arith

loop_holds : tie.Need-loop-end-init invariant_loop decreases_loop
loop_holds c = let a = c.args in (
  refl,
  refl,
  refl,
  omega arith,
  c.line_end-end.ensures,
  omega arith,
  left_start (book_of a.state.cover a.marks.now a.amounts.now) (lines_in a.state.line a.chunk.now) a.out.now 0,
  refl,
)

sub_answer : tie.Need-slice_bounds-answer-count invariant_loop decreases_loop
sub_answer c = omega arith

part_answer_start : tie.Need-slice_bounds-answer-start invariant_loop decreases_loop
part_answer_start c = omega arith

part_answer_end : tie.Need-slice_bounds-answer-end invariant_loop decreases_loop
part_answer_end c = omega arith

answer_requires : tie.Need-answer-work-requires invariant_loop decreases_loop
answer_requires c κs = search rules

empty_requires : tie.Need-empty-line-requires invariant_loop decreases_loop
empty_requires c κs = search rules

add_from : tie.Need-overflow_add-from invariant_loop decreases_loop
add_from c = further c.before.before.before.before.before.before.before.before.before.before.before.before

line_end_requires_2 : tie.Need-line_end-end-requires-in-loop-end invariant_loop decreases_loop
line_end_requires_2 c κs = omega arith

loop_less : tie.Need-loop-end-smaller invariant_loop decreases_loop
loop_less c = omega arith

-- an answer stays in the run
room : (c : tie.After-answer-work invariant_loop decreases_loop) →
    let l = c.loop-end in
    let a = c.args in
    l.at + length (answer_to (book_of l.cover l.marks l.amounts) (held_in (kept_in l.line (take (l.end - l.from) (drop l.from a.chunk.now))))) ≤ length l.out
room c =
    let r = c.answer-work.ensures in
    let t = c.loop-end-test.true in
    let l = c.loop-end in
    omega (arith, r.1.0, r.1.1.1, l.invariant.5, l.invariant.4, l.invariant.2, c.requires)

loop_again : tie.Need-loop-end-preserved invariant_loop decreases_loop
loop_again c = let q = c in
    let i = q in
    let l = i.loop-end in
    let s = i in
    let a = s.args in
    let r = q.answer-work.ensures in
    let k = q.answer-work.auto in
    let t = i.loop-end-test.true in
    let inv = l.invariant in (
      omega (arith, k.marks, inv.0),
      omega (arith, k.amounts, inv.1),
      omega (arith, k.out, inv.2),
      omega (arith, t),
      c.line_end-end-in-loop-end.ensures,
      omega (arith, r.1.1.1, inv.4, inv.5),
      left_line (book_of a.state.cover a.marks.now a.amounts.now) (lines_in a.state.line a.chunk.now) a.out.now 0
          (book_of l.cover l.marks l.amounts) _ l.line c.empty-line.result a.chunk.now l.from l.end l.out _ l.at _
          inv.4 t c.empty-line.ensures inv.6 (room q.before.before.before.before.before.before.before.before) r.0 r.1.0 r.1.1.0,
      inv.7 ∙ left_go l.line a.chunk.now l.from l.end inv.4 t ∙ ap (λ (x : Line). left_in x (drop (l.end + 1) a.chunk.now)) (sym c.empty-line.ensures),
    )

sub_keep : tie.Need-slice_bounds-keep-count invariant_loop decreases_loop
sub_keep c = omega arith

part_keep_start : tie.Need-slice_bounds-keep-start invariant_loop decreases_loop
part_keep_start c = omega arith

part_keep_end : tie.Need-slice_bounds-keep-end invariant_loop decreases_loop
part_keep_end c = omega arith

keep_requires : tie.Need-keep-left-requires invariant_loop decreases_loop
keep_requires c κs = search rules

same_length : tie.Need-shape_of-marks invariant_loop decreases_loop
same_length c = c.loop-end.invariant.0

same_length_2 : tie.Need-shape_of-amounts invariant_loop decreases_loop
same_length_2 c = c.loop-end.invariant.1

same_length_3 : tie.Need-shape_of-out invariant_loop decreases_loop
same_length_3 c = c.loop-end.invariant.2

returns : tie.Need-returns invariant_loop decreases_loop
returns c = let l = c.loop-end in
    let a = c.args in
    let e = c.loop-end-test.false in
    let first = book_of a.state.cover a.marks.now a.amounts.now in
    let all = lines_in a.state.line a.chunk.now in
    let d = left_all first all a.out.now 0 (book_of l.cover l.marks l.amounts) l.line a.chunk.now l.from l.end l.out l.at l.invariant.4 e l.invariant.6 in
    let begun = c.keep-left.ensures ∙ sym (left_stop l.line a.chunk.now l.from l.end l.invariant.4 e) ∙ sym l.invariant.7 in
    let long : l.at ≡ length (answers_to first all) = omega (arith, d.1.0) in (
      λ i. record { refusal = 0; state = record { cover = cover_of (d.0 i); line = begun i }; written = long i },
      (ap (λ (b : Book). b.board.marks) d.0, (ap (λ (b : Book). b.board.amounts) d.0, (d.1.1, omega (arith, l.invariant.3, l.invariant.5, c.requires)))),
    )

pub answer_all_spec : {M : Type 1} → statement M
answer_all_spec =
    tie.close
    (tie.spec
    invariant_loop
    decreases_loop
    line_end_requires
    loop_holds
    sub_answer
    part_answer_start
    part_answer_end
    answer_requires
    empty_requires
    add_from
    line_end_requires_2
    loop_less
    loop_again
    sub_keep
    part_keep_start
    part_keep_end
    keep_requires
    same_length
    same_length_2
    same_length_3
    returns)
