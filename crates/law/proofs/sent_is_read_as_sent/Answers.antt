use Rattle.law.proofs.ReadAsSent.{sent_is_read}
use Rattle.law.proofs.sent_is_read_as_sent.Goals as goal

pub returns : goal.returns
returns c = sent_is_read
