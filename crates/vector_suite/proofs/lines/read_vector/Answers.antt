use Rattle.std.proofs.Common.{ap, ◌∙◌}
use Rattle.vector_suite.specs.Vectors.{vector_of, vector_of_words}
use Rattle.vector_suite.proofs.lines.read_vector.Goals as goal

pub returns-clause-vector : goal.returns-clause-vector
unfolding vector_of
returns-clause-vector c = c.read_words.ensures.vector ∙ ap vector_of_words c.of.ensures.words
