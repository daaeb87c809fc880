use Rattle.module_frames.proofs.Heads.{one_way, reads_back, headers_read_back}
use Rattle.module_frames.proofs.laws.heads_read_back.Goals as goal

pub returns-clause-one_way : goal.returns-clause-one_way
returns-clause-one_way c = one_way

pub returns-clause-back : goal.returns-clause-back
returns-clause-back c = reads_back

pub returns-clause-headers : goal.returns-clause-headers
returns-clause-headers c = headers_read_back
