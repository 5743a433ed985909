-- `frames::answer` meets its contract: by what is asked. Assumes nothing.
use borrow.Author.Rules.{rules}
use Rattle.frames.proofs.answer.Statement.{statement}
use Rattle.frames.proofs.answer.Tie as tie

enum_told : tie.Need-enum_told-1
enum_told c = search rules

post_requires : tie.Need-post-requires
post_requires c κs = search rules

enum_told_2 : tie.Need-enum_told-in-EdregFrame
enum_told_2 c = search rules

post_requires_2 : tie.Need-post-requires-in-EdregFrame
post_requires_2 c κs = search rules

enum_told_3 : tie.Need-enum_told-in-SregFrame
enum_told_3 c = search rules

post_requires_3 : tie.Need-post-requires-in-SregFrame
post_requires_3 c κs = search rules

enum_told_4 : tie.Need-enum_told-in-Frame
enum_told_4 c = search rules

asked_requires : tie.Need-asked-requires
asked_requires c κs = search rules

enum_told_5 : tie.Need-enum_told-in-LossFrames
enum_told_5 c = search rules

loss_frames_requires : tie.Need-loss_frames-requires
loss_frames_requires c κs = search rules

returns : tie.Need-returns-in-DregFrame
returns c = rw c.in-DregFrame.is c.post.ensures

returns_2 : tie.Need-returns-in-EdregFrame
returns_2 c = rw c.in-EdregFrame.is c.post-in-EdregFrame.ensures

returns_3 : tie.Need-returns-in-SregFrame
returns_3 c = rw c.in-SregFrame.is c.post-in-SregFrame.ensures

returns_4 : tie.Need-returns-in-Frame
returns_4 c = rw c.in-Frame.is c.asked.ensures

returns_5 : tie.Need-returns-in-LossFrames
returns_5 c = rw c.in-LossFrames.is c.loss_frames.ensures

pub answer_spec : {M : Type 1} → statement M
answer_spec =
    tie.close
    (tie.spec
    enum_told
    post_requires
    enum_told_2
    post_requires_2
    enum_told_3
    post_requires_3
    enum_told_4
    asked_requires
    enum_told_5
    loss_frames_requires
    returns
    returns_2
    returns_3
    returns_4
    returns_5)
