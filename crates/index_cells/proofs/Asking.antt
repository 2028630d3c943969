-- How many nodes are asked, call by call.
use Rattle.std.proofs.Common.{◌≡◌, ℕ, ◌+◌, ◌*◌, ◌≤◌, ◌<◌, refl, ap, ◌∙◌, arith}
use Rattle.std.proofs.Math.Nat.{mul-le-mul_left}
use Rattle.hl_base.specs.Counts.{Counts}
use Rattle.index_cells.specs.Asks.{AsksFor}

pub asks_none : (n : ℕ) (a : Counts) → AsksFor n a a
asks_none n a = record { nodes = omega arith; more = omega arith; bytes_read = refl; checked = refl }

pub asks_both : (n m k : ℕ) (a b c : Counts) → n + m ≤ k → AsksFor n a b → AsksFor m b c → AsksFor k a c
asks_both n m k a b c le h g = record {
  nodes = omega (arith, le, h.nodes, g.nodes);
  more = omega (arith, h.more, g.more);
  bytes_read = g.bytes_read ∙ h.bytes_read;
  checked = g.checked ∙ h.checked;
}

pub asks_least : (n k : ℕ) (a b : Counts) → n ≤ k → AsksFor n a b → AsksFor k a b
asks_least n k a b le h = record { nodes = omega (arith, le, h.nodes); more = h.more; bytes_read = h.bytes_read; checked = h.checked }

-- one node
pub asks_node : (a b : Counts) → b ≡ record a { nodes = a.nodes + 1 } → AsksFor 1 a b
asks_node a b is = record {
  nodes = omega (arith, ap (λ (c : Counts). c.nodes) is);
  more = omega (arith, ap (λ (c : Counts). c.nodes) is);
  bytes_read = ap (λ (c : Counts). c.bytes_read) is;
  checked = ap (λ (c : Counts). c.checked) is;
}

-- ---- one call for each item of a list

times_next : (n i : ℕ) → n * (i + 1) ≡ n * i + n
times_next n i = omega arith

-- after one more
pub asks_next : (n i : ℕ) (a b c : Counts) → AsksFor (n * i) a b → AsksFor n b c → AsksFor (n * (i + 1)) a c
asks_next n i a b c h g = asks_both (n * i) n (n * (i + 1)) a b c (omega (arith, times_next n i)) h g

-- after some of them
pub asks_some : (n i k : ℕ) (a b : Counts) → i ≤ k → AsksFor (n * i) a b → AsksFor (n * k) a b
asks_some n i k a b le h = asks_least (n * i) (n * k) a b (mul-le-mul_left n le) h

-- after one more of them
pub asks_one : (n i k : ℕ) (a b c : Counts) → i < k → AsksFor (n * i) a b → AsksFor n b c → AsksFor (n * k) a c
asks_one n i k a b c lt h g = asks_some n (i + 1) k a c (omega (arith, lt)) (asks_next n i a b c h g)
