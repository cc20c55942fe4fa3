-- What is printed for a line. Assumes nothing.
use Rattle.std.specs.Prelude.{ℕ, List, ◌++◌, Some, None, Ok, Err, Option, Result, codes, decimal}
use Rattle.cluster.specs.Refusals.{number_of}
use Rattle.cluster.specs.declared.answer.Answer.{Answer}
use Rattle.cluster.specs.declared.answer.Failure.{Failure}
use Rattle.cluster.specs.declared.answer.Failure.TheVariants.{Fault, Refused}
use Rattle.rehearsal.specs.declared.reply.Reply.{Reply}
use Rattle.rehearsal.specs.declared.reply.Reply.TheVariants.{NotUnderstood, Answered}
use Rattle.replica.specs.Faults.{number_of as fault_number}
use Rattle.replica.specs.declared.reaction.Outcome.{Outcome}
use Rattle.replica.specs.declared.reaction.Outcome.TheVariants.{Written, Read, Recovered}

-- the letter of each outcome, with the sequence that was written, the code that was read, or the number of the fault or the refusal
abbrev pub outcome_text : Result (Option Outcome) Failure → List ℕ
outcome_text (Ok None) = codes "-"
outcome_text (Ok (Some (Written t))) = codes "w" ++ decimal t.sequence
outcome_text (Ok (Some (Read w))) = codes "r" ++ decimal w.code
outcome_text (Ok (Some Recovered)) = codes "b"
outcome_text (Err (Fault f)) = codes "f" ++ decimal (fault_number f.replica)
outcome_text (Err (Refused r)) = codes "x" ++ decimal (number_of r)

-- outcome, sent, dropped, stored, in transit
abbrev pub answer_text : Answer → ℕ → List ℕ
answer_text a transit =
    outcome_text a.outcome
    ++ (codes " " ++ (decimal a.sent ++ (codes " " ++ (decimal a.dropped ++ (codes " " ++ (decimal a.stored ++ (codes " " ++ decimal transit)))))))

abbrev pub reply_text : Reply → List ℕ
reply_text NotUnderstood = codes "?"
reply_text (Answered a transit) = answer_text a transit
