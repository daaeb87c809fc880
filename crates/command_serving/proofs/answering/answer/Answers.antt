use Rattle.std.proofs.Common.{subst}
use Rattle.outside.specs.Contents.{Appends}
use Rattle.outside.proofs.Explanations.{explained_by}
use Rattle.module_frames.specs.ReplyFrames.{ReplyFrame}
use Rattle.stream_calls.specs.PartialWrites.{AppendsPart}
use Rattle.stream_calls.proofs.ResultCases.{on_err}
use Rattle.command_serving.proofs.answering.answer.Goals as goal

pub returns-clause-whole : goal.returns-clause-whole
returns-clause-whole g c =
    explained_by _ _ c.command-2.ensures.step (λ events left stepped. record {
      command = c.command.result.now;
      encoded = c.command.ensures;
      each = λ s represents.
          let result = stepped s represents in
          let Written : ReplyFrame → Type 0 = λ r. Appends (g.K.Sink.gained c.args.replies.now) (g.C.Codec.grammar.reply_encoding r) (g.K.Sink.gained c.write.new.replies) in
          (result.0.represents, result.1, subst Written result.0.answer c.in_ok-write.ensures.whole);
    })

pub returns-in_err-write-clause-part : goal.returns-in_err-write-clause-part
returns-in_err-write-clause-part g c =
    on_err _ (explained_by _ _ c.command-2.ensures.step (λ events left stepped. record {
      command = c.command.result.now;
      encoded = c.command.ensures;
      each = λ s represents.
          let result = stepped s represents in
          let Written : ReplyFrame → Type 0 = λ r. AppendsPart (g.K.Sink.gained c.args.replies.now) (g.C.Codec.grammar.reply_encoding r) (g.K.Sink.gained c.write.new.replies) in
          (result.0.represents, result.1, subst Written result.0.answer c.in_err-write.ensures.part);
    }))
