-- Why a pattern is refused.
use Rattle.std.specs.Prelude.{ℕ, List, Err}
use Rattle.regex.specs.Failures.{IsRightKind}
use Rattle.regex.specs.Sources as sources
use Rattle.regex.specs.declared.error.Error.{Error}
use Rattle.regex.specs.declared.error.Error.TheVariants as error
use Rattle.regex.specs.declared.string.regex.Regex.{Regex}
use Rattle.query_terms.specs.Making.{caseless, fault_of, IsRefusedByRegex, RefusesFor}

pub refused_why : (pattern : List ℕ) (given : Error) → sources.IsRefusal caseless pattern given → IsRightKind caseless pattern given → RefusesFor {T = Regex} (IsRefusedByRegex pattern) (Err (fault_of given))
refused_why pattern (error.Syntax e) grammar kind = record { given = error.Syntax e; no_memory = λ same. absurd cc; by_grammar = grammar; kind = kind }
refused_why pattern error.CompiledTooBig grammar kind = record { given = error.CompiledTooBig; no_memory = λ same. absurd cc; by_grammar = grammar; kind = kind }
refused_why pattern error.Internal grammar kind = record { given = error.Internal; no_memory = λ same. absurd cc; by_grammar = grammar; kind = kind }
refused_why pattern error.OutOfMemory grammar kind = tt
