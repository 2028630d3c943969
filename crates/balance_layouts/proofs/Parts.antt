-- Parts of entries.
use Rattle.std.proofs.Common.{◌≡◌, ℕ, ◌+◌, ◌≤◌, List, ◌++◌, subst, arith}
use Rattle.report_cells.specs.Report.{Sums}
use Rattle.balance_rows.specs.Fitting.{IsWhole}
use Rattle.balance_rows.proofs.Entries.{all-append, all-first, all-rest, turnover-append}
use Rattle.balance_rows.proofs.Fits.{IsPart, part-itself}

pub part-same : (xs ys : Sums) → xs ≡ ys → IsPart xs ys
part-same xs ys same = subst (λ (zs : Sums). IsPart xs zs) same (part-itself xs)

pub part-then : (xs ys zs : Sums) → IsPart xs ys → IsPart ys zs → IsPart xs zs
part-then xs ys zs f g = record {
  less = λ q. omega (arith, f.less q, g.less q);
  whole = λ places q h. f.whole places q (g.whole places q h);
}

pub part-left : (xs ys : Sums) → IsPart xs (xs ++ ys)
part-left xs ys = record {
  less = λ q. omega (arith, turnover-append q xs ys);
  whole = λ places q h. all-first (IsWhole places q) xs ys h;
}

pub part-right : (xs ys : Sums) → IsPart ys (xs ++ ys)
part-right xs ys = record {
  less = λ q. omega (arith, turnover-append q xs ys);
  whole = λ places q h. all-rest (IsWhole places q) xs ys h;
}

pub part-skip : (xs ys zs : Sums) → IsPart xs zs → IsPart xs (ys ++ zs)
part-skip xs ys zs f = part-then xs zs (ys ++ zs) f (part-right ys zs)

-- entries in another order
pub part-swap : (xs ys zs : Sums) → IsPart (xs ++ (ys ++ zs)) (ys ++ (xs ++ zs))
part-swap xs ys zs = record {
  less = λ q. omega (arith, turnover-append q xs (ys ++ zs), turnover-append q ys zs, turnover-append q ys (xs ++ zs), turnover-append q xs zs);
  whole = λ places q h.
      let P = IsWhole places q in
      let rest = all-rest P ys (xs ++ zs) h in
      all-append P xs (ys ++ zs) (all-first P xs zs rest) (all-append P ys zs (all-first P ys (xs ++ zs) h) (all-rest P xs zs rest));
}

pub part-cross : (xs ys us vs : Sums) → IsPart ((xs ++ ys) ++ (us ++ vs)) ((xs ++ us) ++ (ys ++ vs))
part-cross xs ys us vs = record {
  less = λ q. omega (arith, turnover-append q (xs ++ ys) (us ++ vs), turnover-append q xs ys, turnover-append q us vs, turnover-append q (xs ++ us) (ys ++ vs), turnover-append q xs us, turnover-append q ys vs);
  whole = λ places q h.
      let P = IsWhole places q in
      let front = all-first P (xs ++ us) (ys ++ vs) h in
      let back = all-rest P (xs ++ us) (ys ++ vs) h in
      all-append P (xs ++ ys) (us ++ vs)
      (all-append P xs ys (all-first P xs us front) (all-first P ys vs back))
      (all-append P us vs (all-rest P xs us front) (all-rest P ys vs back));
}
