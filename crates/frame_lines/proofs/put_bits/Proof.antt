-- `frame_lines::put_bits` meets its contract: the writer's run before a line end. Assumes nothing.
use Prim.Native.Nat.{ℕ}
use mathlib.Core.Path.{◌≡◌, sym, ap, ◌∙◌}
use mathlib.Core.List.{List, ◌++◌}
use lib.ListN.{length}
use Rattle.text.specs.Text.{end_of_line}
use Rattle.pair_frame.specs.PairFrame.{pair_line}
use Rattle.frame_lines.proofs.Laws.{pair_lined, pair_line_long}
use borrow.Author.Rules.{rules}
use Rattle.frame_lines.proofs.put_bits.Statement.{statement}
use Rattle.frame_lines.proofs.put_bits.Tie as tie

array_borrow_prefix_bytes : tie.Need-slice_bounds-bytes-end
array_borrow_prefix_bytes c = search rules

slice_aggregate_write_pair : tie.Need-slice_bounds-write_pair-end
slice_aggregate_write_pair c = search rules

write_pair_requires : tie.Need-write_pair-requires
write_pair_requires c κs = search rules

-- what the run holds then
lined : (c : tie.After-write_pair) → let a = c.args in c.write_pair.new.line ++ end_of_line ≡ pair_line a.second a.frequency a.power ++ end_of_line
lined c =
    let a = c.args in
    ap (λ (l : List ℕ). l ++ end_of_line) (c.write_pair.ensures.1 ∙ pair_lined a.second a.frequency a.power)

slice_aggregate_put : tie.Need-slice_bounds-put-end
slice_aggregate_put c =
    let w = c in
    let a = w.args in
    sym (ap length (lined w.before.before.before) ∙ pair_line_long a.second a.frequency a.power)

put_requires : tie.Need-put-requires
put_requires c κs = search rules

same_length : tie.Need-shape_of-out
same_length c = search rules

returns : tie.Need-returns
returns c = let z = c in rw (lined z.before.before.before.before.before.before) at z.put.ensures

pub put_bits_spec : {M : Type 1} → statement M
put_bits_spec =
    tie.close
    (tie.spec
    array_borrow_prefix_bytes
    slice_aggregate_write_pair
    write_pair_requires
    slice_aggregate_put
    put_requires
    same_length
    returns)
