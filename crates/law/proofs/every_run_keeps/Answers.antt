use Rattle.law.proofs.Every.{every_run_keeps}
use Rattle.law.proofs.every_run_keeps.Goals as goal

pub returns : goal.returns
returns c = every_run_keeps
