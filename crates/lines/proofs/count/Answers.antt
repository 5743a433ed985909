-- `lines::count` meets its contract. The loop's invariant: the line ends so far and those of what is left are all.
use Rattle.std.proofs.Common.{rules, arith, ◌≡◌, ◌∙◌, ap, ◌++◌, length, length-append}
use Rattle.lines.specs.Inner.{ends_of}
use Rattle.lines.proofs.Lines.{ends_append, ends_most}
use Rattle.lines.proofs.count.Goals as goal

pub loop-run-preserved : goal.loop-run-preserved
loop-run-preserved c =
    let run = c.in-Some.run'.now in
    let left = c.next.new.self.rest.now in
    let cut : c.loop-run.run-iterator.rest.now ≡ run ++ left = search rules in
    let ends = ap ends_of cut ∙ ends_append run left in
    let long = ap length cut ∙ length-append run left in
    (omega (arith, ends, c.ends_in-lines.ensures), omega (arith, long, ends_most run, c.ends_in-lines.ensures), search rules)
