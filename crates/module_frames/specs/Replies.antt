-- What a reply stands for.
use Rattle.std.specs.Prelude.{◌≡◌, false, [], replicate, None}
use Rattle.bits_core.specs.declared.limits.TheConstants.{LARGEST_PAYLOAD}
use Rattle.bits_core.specs.OutboxContents.{holding}
use Rattle.module_frames.specs.declared.reply.Reply.{Reply}
use Rattle.service_table.specs.declared.state.State.TheVariants as state
use Rattle.service_table.specs.declared.status.Status.TheVariants as status
use Rattle.module_frames.specs.ReplyFrames.{ReplyFrame}

abbrev pub frame_of : Reply → ReplyFrame
frame_of reply = record {
  service = reply.service;
  sequence = reply.sequence;
  status = reply.status;
  state = reply.state;
  approved = reply.approved;
  code = reply.code;
  block = reply.block;
  payload = reply.payload.bytes;
}

-- the frame of version 1 that is zero in each byte behind its first two
abbrev pub cleared_frame : ReplyFrame
cleared_frame = record {
  service = 0;
  sequence = None;
  status = status.Ok;
  state = state.Off;
  approved = false;
  code = 0;
  block = replicate 12 0;
  payload = [];
}

-- all of the reply is zero, and so is all the room for its payload
pub record IsCleared (reply : Reply) : Type 0 where
  pub frame : frame_of reply ≡ cleared_frame
  pub payload : reply.payload ≡ holding [] LARGEST_PAYLOAD
