use Rattle.std.proofs.Common.{◌≡◌, length, sym, ap, ◌∙◌, rules}
use Rattle.feed.specs.Sending.{laid, summary_bytes}
use Rattle.feed.proofs.Lays.{cells_whole, four_bytes, eight_bytes}
use Rattle.feed.proofs.layout.SummaryLayout.bytes.Goals as goal

pub returns-clause-value : goal.returns-clause-value
unfolding laid summary_bytes
returns-clause-value c =
    let s = c.args.self.now in
    let n : length s.symbol ≡ 8 = search rules in
    let lay_symbol = c.lay-3.ensures ∙ ap (laid c.lay-2.new.buffer 6) (sym (cells_whole s.symbol 8 n)) in
    let offset = c.to_le_bytes.ensures ∙ four_bytes s.offset in
    let price = c.to_le_bytes-2.ensures ∙ eight_bytes s.price in
    let contracts = c.to_le_bytes-3.ensures ∙ four_bytes s.contracts in
    rw (c.lay-6.ensures, c.lay-5.ensures, c.lay-4.ensures, lay_symbol, c.lay-2.ensures, c.lay.ensures, offset, price, contracts)
