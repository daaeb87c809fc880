use Rattle.outside.proofs.Explanations.{explained_by}
use Rattle.command_serving.proofs.SecretStreams.{serving_keeps}
use Rattle.line_serving.specs.LineGrammar.{line_grammar, line_grammar_is_lawful}
use Rattle.line_serving.proofs.ServedLines.{operates_by, keeps_by}
use Rattle.line_serving.proofs.operating.operate.Goals as goal

pub returns-clause-served : goal.returns-clause-served
returns-clause-served g c =
    explained_by _ _ c.serve_stream-ended.ensures.served
    (λ events left serves s represents. operates_by g.E.Engine.calls c.serve_stream-ended.result c.conclude.result _ s _ _ _ _ _ events left (serves s represents) c.conclude.ensures.told)

pub returns-clause-secrets : goal.returns-clause-secrets
returns-clause-secrets g c plain =
    explained_by _ _ c.serve_stream-ended.ensures.served
    (λ events left serves s represents. keeps_by g.E.Engine.calls c.serve_stream-ended.result c.conclude.result s _ _ _ _ events left
    (serving_keeps line_grammar g.E.Engine.calls line_grammar_is_lawful plain _ _ s _ _ _ events left represents.well_formed.slots.sixteen_rows (serves s represents)) c.conclude.ensures.told)
