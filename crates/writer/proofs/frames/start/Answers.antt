use Rattle.std.proofs.Common.{arith}
use Rattle.writer.proofs.Holding.{starts}
use Rattle.writer.proofs.frames.start.Goals as goal

pub returns-clause-holds : goal.returns-clause-holds
returns-clause-holds c = λ _. grind (arith, starts c.args.buffer.now)
