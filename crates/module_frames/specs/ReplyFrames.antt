-- The grammar of reply frames.
use Rattle.std.specs.Prelude.{ℕ, Bool, List, Option, ◌++◌, length}
use Rattle.service_table.specs.declared.state.State.{State}
use Rattle.service_table.specs.declared.status.Status.{Status}
use Rattle.module_frames.specs.declared.head.ReplyHead.{ReplyHead}
use Rattle.module_frames.specs.ReplyHeads.{head_encoding}

-- a reply: the command's service, its sequence number where it has one, the status, the state after it, whether it was an approved service, the error code,
-- the status block of 12 bytes, and the payload
pub record ReplyFrame : Type 0 where
  pub service : ℕ
  pub sequence : Option ℕ
  pub status : Status
  pub state : State
  pub approved : Bool
  pub code : ℕ
  pub block : List ℕ
  pub payload : List ℕ

-- the head of a reply
abbrev pub head_of : ReplyFrame → ReplyHead
head_of reply = record {
  service = reply.service;
  sequence = reply.sequence;
  status = reply.status;
  state = reply.state;
  approved = reply.approved;
  code = reply.code;
  block = reply.block;
  length = length reply.payload;
}

-- its head, encoded: 24 bytes, or 28 with a sequence number
abbrev pub reply_header : ReplyFrame → List ℕ
reply_header reply = head_encoding (head_of reply)

abbrev pub reply_encoding : ReplyFrame → List ℕ
reply_encoding reply = reply_header reply ++ reply.payload
