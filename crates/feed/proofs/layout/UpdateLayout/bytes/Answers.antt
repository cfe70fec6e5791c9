use Rattle.std.proofs.Common.{◌≡◌, length, sym, ap, ◌∙◌, rules}
use Rattle.feed.specs.Sending.{laid, update_bytes}
use Rattle.feed.proofs.Lays.{cells_whole, four_bytes, eight_bytes}
use Rattle.feed.proofs.layout.UpdateLayout.bytes.Goals as goal

pub returns-clause-value : goal.returns-clause-value
unfolding laid update_bytes
returns-clause-value c =
    let u = c.args.self.now in
    let n : length u.symbol ≡ 8 = search rules in
    let lay_symbol = c.lay-3.ensures ∙ ap (laid c.lay-2.new.buffer 6) (sym (cells_whole u.symbol 8 n)) in
    let offset = c.to_le_bytes.ensures ∙ four_bytes u.offset in
    let reference = c.to_le_bytes-2.ensures ∙ eight_bytes u.reference in
    let buy = c.to_le_bytes-3.ensures ∙ four_bytes u.buy in
    let sell = c.to_le_bytes-4.ensures ∙ four_bytes u.sell in
    let indicative = c.to_le_bytes-5.ensures ∙ eight_bytes u.indicative in
    let auction_only = c.to_le_bytes-6.ensures ∙ eight_bytes u.auction_only in
    let bid = c.to_le_bytes-7.ensures ∙ eight_bytes u.bid in
    let offer = c.to_le_bytes-8.ensures ∙ eight_bytes u.offer in
    rw (c.lay-12.ensures, c.lay-11.ensures, c.lay-10.ensures, c.lay-9.ensures, c.lay-8.ensures, c.lay-7.ensures, c.lay-6.ensures, c.lay-5.ensures, c.lay-4.ensures, lay_symbol, c.lay-2.ensures, c.lay.ensures, offset, reference, buy, sell, indicative, auction_only, bid, offer)
