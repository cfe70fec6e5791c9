use Rattle.std.proofs.Common.{◌-◌, length, arith}
use Rattle.ranked.proofs.Moves.{closed_up}
use Rattle.ranked.proofs.list.calls.close_up.Goals as goal

pub returns : goal.returns
returns g c = closed_up c.args.entries.now c.args.at (length c.args.entries.now - c.args.at) c.rotate_left.new.self c.requires (omega arith) c.rotate_left.ensures.after
