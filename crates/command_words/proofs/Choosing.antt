-- What is asked for where some words are missing.
use Rattle.std.proofs.Common.{◌≡◌, ℕ, true, false, ◌==◌, List, [], ◌∷◌, length, Ok, refl, arith}
use Rattle.std.proofs.lemmas.Bool.Decides.{nat_tests}
use Rattle.book_care.specs.declared.faults.Check.{Check}
use Rattle.book_commands.specs.declared.work.Work.TheVariants as works
use Rattle.command_words.specs.Commands.{one_word, strict_task, text_task, words_or_default}
use Rattle.command_words.specs.Usage.{missing}
use Rattle.command_words.specs.declared.task.Origin.{Origin}
use Rattle.std.specs.Prelude.{codes}

pub strict_none : (origin : Origin) (checks : List Check) → (length checks == 0) ≡ true → strict_task origin checks ≡ missing
strict_none origin [] e = refl
strict_none origin (check ∷ checks) e = absurd (grind (arith, nat_tests))

pub strict_some : (origin : Origin) (checks : List Check) → (length checks == 0) ≡ false → strict_task origin checks ≡ Ok (text_task origin (works.Strict checks))
strict_some origin [] e = absurd cc
strict_some origin (check ∷ checks) e = refl

pub words_none : (words : List (List ℕ)) → (length words == 0) ≡ true → words_or_default words ≡ one_word (codes "type:AL")
words_none [] e = refl
words_none (word ∷ words) e = absurd (grind (arith, nat_tests))

pub words_some : (words : List (List ℕ)) → (length words == 0) ≡ false → words_or_default words ≡ words
words_some [] e = absurd cc
words_some (word ∷ words) e = refl
