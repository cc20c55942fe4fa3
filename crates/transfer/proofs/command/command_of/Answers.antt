use Rattle.std.proofs.Common.{string_bytes, arith}
use Rattle.transfer.proofs.CommandWords.{other_words, six_words}
use Rattle.transfer.proofs.command.command_of.Goals as goal

pub returns-in-len6 : goal.returns-in-len6
returns-in-len6 c =
    let e = six_words string_bytes c.args.words.now c.verb-item-then-words-lt7.result c.replicas-item.result c.kind-item.result c.stores-item.result c.path-item-then-words-lt7.result (omega arith) c.verb-item-then-words-lt7.is c.replicas-item.is c.kind-item.is c.stores-item.is c.path-item-then-words-lt7.is in
    cc

pub returns-in_default : goal.returns-in_default
returns-in_default c = other_words string_bytes c.args.words.now (λ e. grind arith) (λ e. grind arith) (λ e. grind arith)
