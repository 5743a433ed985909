-- `pair_frame::write_pair` meets its contract: the twelfth byte that is handed on does not count. Assumes nothing.
use borrow.Author.Rules.{rules}
use Rattle.frame.specs.Frame.{closed}
use Rattle.pair_frame.proofs.write_pair.Statement.{statement}
use Rattle.pair_frame.proofs.write_pair.Tie as tie

bytes_of_requires : tie.Need-bytes_of-requires
bytes_of_requires c κs = search rules

close_line_requires : tie.Need-close_line-requires
close_line_requires c κs = search rules

same_length : tie.Need-shape_of-line
same_length c = search rules

returns : tie.Need-returns
unfolding closed
returns c = let l = c.before.before in let b = l.before.before in (l.close_line.ensures.0, rw b.bytes_of.ensures at l.close_line.ensures.1)

pub write_pair_spec : {M : Type 1} → statement M
write_pair_spec = tie.close (tie.spec bytes_of_requires close_line_requires same_length returns)
