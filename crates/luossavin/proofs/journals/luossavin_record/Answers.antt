-- The writer's record of the call, told as an answer.
use Rattle.block.proofs.Base.{◌∙◌, ap}
use Rattle.luossavin.specs.Recording.{host_record}
use Rattle.luossavin.proofs.Recorded.{leaves_outcome, fitted, written-recorded}
use Rattle.luossavin.proofs.journals.luossavin_record.Goals as goal

pub returns : goal.returns
unfolding host_record
returns c =
    let a = c.args in
    let mode = c.unwrap_or.ensures ∙ fitted 255 a.mode _ c.try_from.ensures in
    let room = c.unwrap_or-2.ensures ∙ fitted 0xffff_ffff a.room _ c.try_from-2.ensures in
    let number = c.unwrap_or-3.ensures ∙ fitted 255 a.number _ c.try_from-3.ensures in
    rw c.into.ensures
    (ap leaves_outcome c.write.ensures
    ∙ written-recorded _ a.out.now
    ∙ rw (c.direction_of.ensures, mode, room, number))
