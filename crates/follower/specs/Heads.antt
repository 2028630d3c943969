-- Frames in a stream of bytes.
use Rattle.std.specs.Prelude.{◌≡◌, ℕ, ◌+◌, ◌<◌, ◌≤◌, Bool, true, false, ◌==◌, ◌||◌, List, [], ◌∷◌, ◌++◌, length, drop, slice_index, Option, Some, None}
use Rattle.std.specs.Int.{w64, to_le_bytes}
use Rattle.text_store.specs.Frames.{frame}
use Rattle.text_store.specs.Image.{number_8}
use Rattle.follower.specs.declared.fault.FrameFault.{FrameFault}
use Rattle.follower.specs.declared.fault.FrameFault.TheVariants.{ReadFault, Cut, BadFrame, TooLong, Memory}
use Rattle.follower.specs.declared.frame.Frame.{Frame}
use Rattle.follower.specs.declared.heads.Head.{Head}
use Rattle.text_store.specs.Kinds.{image_kind, import_kind, splice_kind, text_kind}

-- C, T, S and I
abbrev pub is_kind : ℕ → Bool
is_kind kind = (kind == image_kind) || (kind == text_kind) || (kind == splice_kind) || (kind == import_kind)

-- the most bytes of a payload
abbrev pub most : ℕ
most = 33554432

-- bytes that begin with a frame, and what stands behind it; or there are none
abbrev pub BeginsWith : List ℕ → Option Frame → List ℕ → Type 0
BeginsWith bytes None rest = (bytes ≡ []) × (rest ≡ [])
BeginsWith bytes (Some f) rest = (is_kind f.kind ≡ true) × (length f.payload ≤ most) × (bytes ≡ frame f.revision f.kind f.payload ++ rest)

-- bytes that end inside a frame, which is good as far as they go
pub record EndsInside (bytes : List ℕ) : Type 0 where
  pub some : 0 < length bytes
  pub kind : 9 ≤ length bytes → is_kind (slice_index bytes 8) ≡ true
  pub said : 17 ≤ length bytes → number_8 (drop 9 bytes) ≤ most
  pub short : 17 ≤ length bytes → length bytes < 17 + number_8 (drop 9 bytes)

-- why bytes begin with no frame, by the first of them that isn't good
abbrev pub FrameRefused : List ℕ → FrameFault → Type 0
FrameRefused bytes (Cut had) = EndsInside bytes × (had ≡ length bytes)
FrameRefused bytes (BadFrame kind) = (9 ≤ length bytes) × (kind ≡ slice_index bytes 8) × (is_kind kind ≡ false)
FrameRefused bytes (TooLong said limit) = (17 ≤ length bytes) × (is_kind (slice_index bytes 8) ≡ true) × (said ≡ number_8 (drop 9 bytes)) × (limit ≡ most) × (limit < said)
FrameRefused bytes ReadFault = Unit {0}
FrameRefused bytes Memory = Unit {0}

-- what stands before a frame's payload
abbrev pub head_bytes : Head → List ℕ
head_bytes head = to_le_bytes w64 head.revision ++ head.kind ∷ to_le_bytes w64 head.len

-- the same with a frame's head
abbrev pub BeginsAt : List ℕ → Option Head → List ℕ → Type 0
BeginsAt bytes None rest = (bytes ≡ []) × (rest ≡ [])
BeginsAt bytes (Some head) rest = (is_kind head.kind ≡ true) × (head.len ≤ most) × (bytes ≡ head_bytes head ++ rest)

-- the first nine bytes of a frame, whose kind is good
abbrev pub BeginsUpTo : List ℕ → Option ℕ → List ℕ → List ℕ → Type 0
BeginsUpTo bytes None read rest = (bytes ≡ []) × (rest ≡ [])
BeginsUpTo bytes (Some kind) read rest = (is_kind kind ≡ true) × (length read ≡ 9) × (slice_index read 8 ≡ kind) × (bytes ≡ read ++ rest)
