-- What a write to a part of a frame leaves.
use Rattle.std.proofs.Common.{rules, ◌≡◌, ℕ, ◌+◌, ◌-◌, ◌≤◌, length, List, ◌++◌, take, drop, arith}
use borrow.Rule.Slice.PartMut.{put_mid}
use Rattle.std.proofs.lemmas.List.{same_lists, places}
use Rattle.fdp_layouts.specs.Frame.{placed}

pub wrote : (at : ℕ) (frame new bs : List ℕ) → at + length bs ≤ length frame
    → new ≡ bs ++ drop (length bs) (take (length frame - at) (drop at frame))
    → put_mid at (length frame - at) frame new ≡ placed at bs frame
unfolding placed
wrote at frame new bs fits e =
    rw e (same_lists _ _ (search (rules, places)) (λ k d h. grind (arith, places)))

pub wrote_all : (at k : ℕ) (frame new bs : List ℕ) → at + length bs ≤ length frame → k ≡ length bs → new ≡ bs
    → put_mid at k frame new ≡ placed at bs frame
unfolding placed
wrote_all at k frame new bs fits len e =
    rw (e, len) (same_lists _ _ (search (rules, places)) (λ k d h. grind (arith, places)))
