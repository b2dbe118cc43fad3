use Rattle.law_streams.{proofs.HelloRead.hello_is_read}
use Rattle.law_streams.proofs.in_time.hello_is_read.Goals as goal

pub returns : goal.returns
returns c = hello_is_read
