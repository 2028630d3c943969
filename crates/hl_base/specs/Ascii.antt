-- The bytes that the grammars of a journal name, and the classes of bytes that they speak of.
use Rattle.std.specs.Prelude.{ℕ, ◌-◌, Bool, false, ◌&&◌, ◌||◌, ◌==◌, nat_le, List, [], ◌∷◌, length, take, drop}
use Rattle.std.specs.List.{prefix_len, suffix_len}

-- b'\t'
abbrev pub tab : ℕ
tab = 9

-- b'\n'
abbrev pub line_feed : ℕ
line_feed = 10

-- b'\r'
abbrev pub carriage_return : ℕ
carriage_return = 13

-- b' '
abbrev pub space : ℕ
space = 32

-- b'!'
abbrev pub exclamation : ℕ
exclamation = 33

-- b'"'
abbrev pub quote : ℕ
quote = 34

-- b'#'
abbrev pub hash : ℕ
hash = 35

-- b'$'
abbrev pub dollar : ℕ
dollar = 36

-- b'%'
abbrev pub percent : ℕ
percent = 37

-- b'('
abbrev pub open_round : ℕ
open_round = 40

-- b')'
abbrev pub close_round : ℕ
close_round = 41

-- b'*'
abbrev pub asterisk : ℕ
asterisk = 42

-- b'+'
abbrev pub plus : ℕ
plus = 43

-- b','
abbrev pub comma : ℕ
comma = 44

-- b'-'
abbrev pub minus : ℕ
minus = 45

-- b'.'
abbrev pub dot : ℕ
dot = 46

-- b'/'
abbrev pub slash : ℕ
slash = 47

-- b'0'
abbrev pub digit_zero : ℕ
digit_zero = 48

-- b'9'
abbrev pub digit_nine : ℕ
digit_nine = 57

-- b':'
abbrev pub colon : ℕ
colon = 58

-- b';'
abbrev pub semicolon : ℕ
semicolon = 59

-- b'='
abbrev pub equals : ℕ
equals = 61

-- b'@'
abbrev pub at_sign : ℕ
at_sign = 64

-- b'['
abbrev pub open_square : ℕ
open_square = 91

-- b']'
abbrev pub close_square : ℕ
close_square = 93

-- b'_'
abbrev pub underscore : ℕ
underscore = 95

-- b'`'
abbrev pub grave : ℕ
grave = 96

-- b'{'
abbrev pub open_curly : ℕ
open_curly = 123

-- b'|'
abbrev pub pipe : ℕ
pipe = 124

-- b'}'
abbrev pub close_curly : ℕ
close_curly = 125

-- b'~'
abbrev pub tilde : ℕ
tilde = 126

-- white space within a line: a space, a tab or a CR
abbrev pub is_white : ℕ → Bool
is_white b = (b == space) || (b == tab) || (b == carriage_return)

-- '0' to '9'
abbrev pub is_digit : ℕ → Bool
is_digit b = nat_le digit_zero b && nat_le b digit_nine

-- ASCII punctuation: what is printed and is no letter, digit or space
abbrev pub is_punctuation : ℕ → Bool
is_punctuation b =
    (nat_le exclamation b && nat_le b slash) || (nat_le colon b && nat_le b at_sign)
    || (nat_le open_square b && nat_le b grave) || (nat_le open_curly b && nat_le b tilde)

-- the text begins with a byte that passes
abbrev pub first_is : (ℕ → Bool) → List ℕ → Bool
first_is p [] = false
first_is p (b ∷ bs) = p b

-- it begins with this byte
abbrev pub begins : List ℕ → ℕ → Bool
begins text byte = first_is (λ b. b == byte) text

-- the text without the white space at its front
abbrev pub after_white : List ℕ → List ℕ
after_white text = drop (prefix_len is_white text) text

-- the text without the white space at its end
abbrev pub before_white : List ℕ → List ℕ
before_white text = take (length text - suffix_len is_white text) text

-- the text without white space at both ends
abbrev pub trimmed : List ℕ → List ℕ
trimmed text = before_white (after_white text)
