-- The head of a frame and the entry behind it.
use Rattle.std.specs.Prelude.{◌≡◌, ℕ, ◌+◌, ◌*◌, ◌^◌, ◌<◌, Bool, List, [], ◌∷◌, ◌++◌, take, replicate}
use Rattle.std.specs.Int.{to_le_bytes, w32}
use Rattle.fdp_base.specs.EventCodes.{bit}
use Rattle.fdp_layouts.specs.declared.submission.EntryFlags.{EntryFlags}
use Rattle.fdp_layouts.specs.declared.submission.Sqe.{Sqe}
use Rattle.fdp_layouts.specs.Frame.{Fits}
use Rattle.fdp_layouts.specs.Submission.{fuse_code, psdt_code, sqe, sqe_numbers}
use Rattle.fdp_queues.specs.Entry.{entry_bytes}
use Rattle.fdp_binary.specs.declared.front.Front.{Front}
use Rattle.fdp_binary.specs.declared.front.TheConstants.{FRONT}

-- the head: bit 0 of the first byte says admin, and bytes 4 to 7 say how many bytes of data follow the entry
abbrev pub head : Bool → ℕ → List ℕ
head admin len = (bit admin ∷ 0 ∷ 0 ∷ 0 ∷ []) ++ to_le_bytes w32 len ++ replicate 8 0

-- bytes are a head, or none
abbrev pub IsHead : List ℕ → Bool → ℕ → Type 0
IsHead bytes admin len = (len < 2 ^ 32) × (bytes ≡ head admin len)

abbrev pub IsNoHead : List ℕ → Type 0
IsNoHead bytes = (admin : Bool) (len : ℕ) → IsHead bytes admin len → ⊥

-- bytes are an entry, or none
abbrev pub IsEntry : List ℕ → Sqe → Type 0
IsEntry bytes entry = Fits sqe (sqe_numbers entry) × (bytes ≡ entry_bytes entry)

abbrev pub IsNoEntry : List ℕ → Type 0
IsNoEntry bytes = (entry : Sqe) → IsEntry bytes entry → ⊥

-- head and entry
abbrev pub front_bytes : Front → List ℕ
front_bytes front = head front.admin front.len ++ entry_bytes front.entry

-- each number fits its field
pub record IsSound (front : Front) : Type 0 where
  pub short : front.len < 2 ^ 32
  pub fits : Fits sqe (sqe_numbers front.entry)

-- the bytes begin with this head and this entry
pub record Begins (front : Front) (bytes : List ℕ) : Type 0 where
  pub sound : IsSound front
  pub is : take FRONT bytes ≡ front_bytes front

-- byte 1 of an entry: FUSE in its lowest bits, PSDT in its highest
abbrev pub flags_byte : EntryFlags → ℕ
flags_byte flags = fuse_code flags.fuse + 2 ^ 6 * psdt_code flags.psdt
