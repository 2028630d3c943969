-- The first two numbers of a sample of two entries, and what they spend.
use Rattle.std.proofs.Common.{◌≡◌, refl}
use Rattle.sample_text.specs.Sample.{cents_of, kind_of, number_of, next_number}

first : number_of 2 0 ≡ 59559187
unfolding next_number
first = refl

second : number_of 2 1 ≡ 1495354192
unfolding next_number
second = refl

spends : cents_of 59559187 ≡ 55919
unfolding cents_of
spends = refl

kind : kind_of 1495354192 ≡ 2
unfolding kind_of
kind = refl
