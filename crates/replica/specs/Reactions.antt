-- What comes of an event at a replica. Assumes nothing.
use Rattle.std.specs.Prelude.{Bool, false, Some, None}
use Rattle.replica.specs.declared.message.Message.{Message}
use Rattle.replica.specs.declared.reaction.Outcome.{Outcome}
use Rattle.replica.specs.declared.reaction.Reaction.{Reaction}
use Rattle.replica.specs.declared.reaction.Sending.TheVariants.{One, All}

abbrev pub nothing : Reaction
nothing = record { sending = None; outcome = None; stored = false }

-- a response, after a store or without one
abbrev pub replying : Message → Bool → Reaction
replying m stored = record { sending = Some (One m); outcome = None; stored = stored }

-- an update to all
abbrev pub updating : Message → Bool → Reaction
updating m stored = record { sending = Some (All m); outcome = None; stored = stored }

-- the end of an operation
abbrev pub ending : Outcome → Bool → Reaction
ending o stored = record { sending = None; outcome = Some o; stored = stored }
