use Rattle.away.specs.View.{bids_of, offers_of}
use Rattle.away.proofs.Boards.{firsts_are_best}
use Rattle.away.proofs.board.calls.AwayBoardOutsideMarket.ask.Goals as goal

pub returns-clause-answer : goal.returns-clause-answer
returns-clause-answer c =
    let b = c.args.self.now in
    firsts_are_best (bids_of b) (offers_of b) c.best_price.result c.best_price-2.result b.bids.list.order b.offers.list.order c.best_price.ensures c.best_price-2.ensures
