use Rattle.std.proofs.Common.{subst}
use Rattle.outside.specs.Contents.{Appends}
use Rattle.module_frames.specs.Replies.{frame_of}
use Rattle.module_frames.specs.ReplyFrames.{reply_header, reply_encoding}
use Rattle.stream_calls.specs.PartialWrites.{AppendsPart}
use Rattle.stream_calls.proofs.ResultCases.{on_err, on_err_then}
use Rattle.stream_calls.proofs.PartialWrites.{part_in_front, part_behind}
use Rattle.command_serving.proofs.frame_codec.send.Goals as goal

-- a part of the header was written
pub returns-in_err-write_all-clause-part : goal.returns-in_err-write_all-clause-part
returns-in_err-write_all-clause-part g c =
    let reply = frame_of c.args.reply.now in
    let part : AppendsPart (g.K.Sink.gained c.args.replies.now) (reply_header reply) (g.K.Sink.gained c.write_all.new.sink) =
    subst (λ xs. AppendsPart (g.K.Sink.gained c.args.replies.now) xs (g.K.Sink.gained c.write_all.new.sink)) c.header-length.ensures.header c.in_err-write_all.ensures.part in
    let fact : AppendsPart (g.K.Sink.gained c.args.replies.now) (reply_encoding reply) (g.K.Sink.gained c.write_all.new.sink) =
    part_in_front _ _ (reply_header reply) reply.payload part in
    on_err _ fact

-- the header was written, and a part of the payload
pub returns-clause-part : goal.returns-clause-part
returns-clause-part g c =
    let reply = frame_of c.args.reply.now in
    let first : Appends (g.K.Sink.gained c.args.replies.now) (reply_header reply) (g.K.Sink.gained c.write_all.new.sink) =
    subst (λ xs. Appends (g.K.Sink.gained c.args.replies.now) xs (g.K.Sink.gained c.write_all.new.sink)) c.header-length.ensures.header c.in_ok-write_all.ensures.whole in
    on_err_then _ c.write_all-2.ensures.part (λ second.
    let part : AppendsPart (g.K.Sink.gained c.write_all.new.sink) reply.payload (g.K.Sink.gained c.write_all-2.new.sink) =
    subst (λ xs. AppendsPart (g.K.Sink.gained c.write_all.new.sink) xs (g.K.Sink.gained c.write_all-2.new.sink)) c.bytes.ensures.bytes second in
    part_behind _ _ _ (reply_header reply) reply.payload first part)
