-- What a line of a board says.
use Rattle.std.specs.Prelude.{ℕ, List, [], ◌∷◌, Some, None, Ok, Err, Option, Result}
use Rattle.text.specs.Word.{uncommented_of, word_list}
use Rattle.entry.specs.Fields.{Complaint, complaint, Line, Reader, ◌then◌, symbol_in, letter_in, price_in, number_in, condition_in, end_in, done}
use Rattle.entry.specs.Values.{Verb, verb_of, Update as update, Summary as summary, Send as send}
use Rattle.entry.specs.declared.board.Entry.{Entry}
use Rattle.entry.specs.declared.board.Entry.TheVariants.{Update, Summary, Send}
use Rattle.entry.specs.declared.problem.Trouble.TheVariants.{Verb as Unknown}

-- the fields of an update, and nothing behind them
unfoldable pub update_in : Reader Entry
update_in =
    symbol_in then λ symbol.
    letter_in then λ auction.
    price_in then λ reference.
    number_in then λ buy.
    number_in then λ sell.
    price_in then λ indicative.
    price_in then λ auctionOnly.
    condition_in then λ condition.
    price_in then λ bid.
    price_in then λ offer.
    number_in then λ offset.
    end_in then λ _.
    done (Update (record { offset = offset; symbol = symbol; auction = auction; reference = reference; buy = buy; sell = sell; indicative = indicative; auction_only = auctionOnly; condition = condition; bid = bid; offer = offer }))

-- the fields of a summary, and nothing behind them
unfoldable pub summary_in : Reader Entry
summary_in =
    symbol_in then λ symbol.
    letter_in then λ auction.
    price_in then λ price.
    number_in then λ contracts.
    number_in then λ offset.
    end_in then λ _.
    done (Summary (record { offset = offset; symbol = symbol; auction = auction; price = price; contracts = contracts }))

-- nothing behind the verb
unfoldable pub send_in : Reader Entry
send_in = end_in then λ _. done Send

-- the fields that belong to a verb; a word that is no verb is a complaint
abbrev pub fields_in : Option Verb → Reader Entry
fields_in (Some update) line = update_in line
fields_in (Some summary) line = summary_in line
fields_in (Some send) line = send_in line
fields_in None line = Err (complaint line.verb Unknown)

-- the entry alone
abbrev pub entry_in : Result (Entry × Line) Complaint → Result (Option Entry) Complaint
entry_in (Ok p) = Ok (Some p.0)
entry_in (Err e) = Err e

-- a verb and its fields; no entry where there is no word
abbrev pub entry_from : List (List ℕ) → Result (Option Entry) Complaint
entry_from [] = Ok None
entry_from (verb ∷ words) = entry_in (fields_in (verb_of verb) (record { verb = verb; words = words }))

-- what a line says, up to its comment
unfoldable pub entry_of : List ℕ → Result (Option Entry) Complaint
entry_of line = entry_from (word_list (uncommented_of line))
