-- The faults of a frame: each reason's number and layer, and the texts by which they are shown.
use Rattle.std.specs.Prelude.{ℕ, List, codes}
use Rattle.feed.specs.declared.fault.Layer.{Layer}
use Rattle.feed.specs.declared.fault.Layer.TheVariants.{Frame, Message, Field}
use Rattle.feed.specs.declared.fault.Reason.{Reason}
use Rattle.feed.specs.declared.fault.Reason.TheVariants.{Header, Length, Short, Symbol, Letter, Leftover}
use Rattle.feed.specs.declared.fault.Fault.{Fault}

-- the number by which a reason is published
abbrev pub number_of : Reason → ℕ
number_of Header = 30
number_of Length = 31
number_of Short = 32
number_of Symbol = 33
number_of Letter = 33
number_of Leftover = 34

-- the layer that it lies in
abbrev pub layer_of : Reason → Layer
layer_of Header = Frame
layer_of Length = Message
layer_of Short = Message
layer_of Symbol = Field
layer_of Letter = Field
layer_of Leftover = Frame

-- a reason at a place
abbrev pub fault_at : Reason → ℕ → Fault
fault_at reason place = record { reason = reason; place = place }

abbrev pub reason_text : Reason → List ℕ
reason_text Header = codes "unfit header"
reason_text Length = codes "unfit length"
reason_text Short = codes "shorter than its layout"
reason_text Symbol = codes "unfit symbol"
reason_text Letter = codes "unfit auction letter"
reason_text Leftover = codes "bytes left over"

abbrev pub layer_text : Layer → List ℕ
layer_text Frame = codes "frame"
layer_text Message = codes "message"
layer_text Field = codes "field"
