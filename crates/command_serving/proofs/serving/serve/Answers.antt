use Rattle.command_serving.specs.FrameGrammar.{frame_grammar, frame_grammar_is_lawful}
use Rattle.outside.proofs.Explanations.{explained_by}
use Rattle.command_serving.proofs.SecretStreams.{serving_keeps}
use Rattle.command_serving.proofs.serving.serve.Goals as goal

pub returns-clause-secrets : goal.returns-clause-secrets
returns-clause-secrets g c plain s represents =
    explained_by _ _ c.serve_stream-ended.ensures.served
    (λ events left serves. serving_keeps frame_grammar g.E.Engine.calls frame_grammar_is_lawful plain _ _ s _ _ _ events left represents.well_formed.slots.sixteen_rows (serves s represents))

pub returns-clause-served : goal.returns-clause-served
returns-clause-served g c s represents = explained_by _ _ c.serve_stream-ended.ensures.served (λ events left serves. serves s represents)
