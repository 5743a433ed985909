-- `replies::put_reply`: the reply to the question, by as many numbers as there are. Assumes nothing.
use Rattle.replies.specs.Inner.{reply_of}
use Rattle.replies.proofs.Laws.{take_least, said}
use Rattle.replies.proofs.put_reply.Goals as goal

pub returns-clause-place : goal.returns-clause-place
unfolding reply_of
returns-clause-place c =
    let e = rw (c.min-count.ensures, take_least) at c.reply.ensures.answers in
    let t = rw (c.min-count.ensures, take_least) at c.reply.ensures.text in
    (said c.args.out.now _ _ _ c.requires e t).0

pub returns-clause-text : goal.returns-clause-text
unfolding reply_of
returns-clause-text c =
    let e = rw (c.min-count.ensures, take_least) at c.reply.ensures.answers in
    let t = rw (c.min-count.ensures, take_least) at c.reply.ensures.text in
    (said c.args.out.now _ _ _ c.requires e t).1
