-- The file of a zone that the environment variable TZ names.
use Rattle.std.specs.Prelude.{ℕ, Bool, false, ◌&&◌, ◌||◌, ◌==◌, List, [], ◌∷◌, ◌++◌, length, Option, None, Some, codes, if◌then◌else◌}

-- the name in a text of TZ: what follows a leading colon, or the text
abbrev pub name_in : List ℕ → List ℕ
name_in [] = []
name_in (byte ∷ rest) = if byte == 58 then rest else byte ∷ rest

-- the byte at the front, 0 where there is none
abbrev pub front_of : List ℕ → ℕ
front_of [] = 0
front_of (byte ∷ rest) = byte

-- a full stop, and another at the front of what follows
abbrev pub goes_up : ℕ → List ℕ → Bool
goes_up byte rest = (byte == 46) && (front_of rest == 46)

-- whether two full stops follow each other
unfoldable pub climbs : List ℕ → Bool
climbs [] = false
climbs (byte ∷ rest) = goes_up byte rest || climbs rest

-- the folder below which a name is a file: none for a path from the root
abbrev pub folder_of : List ℕ → List ℕ
folder_of name = if front_of name == 47 then [] else codes "/usr/share/zoneinfo/"

-- a name that no file has: the empty one, and one with two full stops in sequence
abbrev pub has_no_file : List ℕ → Bool
has_no_file name = (length name == 0) || climbs name

-- the path of the file of a name
abbrev pub path_of_name : List ℕ → Option (List ℕ)
path_of_name name = if has_no_file name then None else Some (folder_of name ++ name)

-- the path of the file that may describe the zone, by what TZ says where it is set
abbrev pub path_of : Option (List ℕ) → Option (List ℕ)
path_of None = Some (codes "/etc/localtime")
path_of (Some text) = path_of_name (name_in text)
