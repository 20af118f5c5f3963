-- Looks at pages that are marked, one after another.
use Rattle.std.proofs.Common.{◌≡◌, ◌∙◌, ℕ, ◌+◌, true, false, List, Bool, length, set, Some, ap, arith, replicate}
use Rattle.std.specs.Prelude.{slice_get}
use Rattle.std.proofs.lemmas.List.{length-replicate}
use Rattle.fdp_flash.specs.FlashState.{FlashState}
use Rattle.fdp_flash.specs.OnlyReads.{ReadsOnly}
use Rattle.fdp_flash.proofs.OnlyReads.{no_read, reads_fewer, reads_joined}
use Rattle.fdp_recovery.specs.Walking.{LooksMarked, OnlyLooks, marked_in}
use Rattle.fdp_recovery.proofs.Kept.{marked-more, marked-most}

pub no_look_marked : (marks : List Bool) (s : FlashState) → LooksMarked marks marks s s
no_look_marked marks s = record { most = 0; reads = no_read s; counted = omega arith }

pub looks_marked : (x y z : List Bool) (a b c : FlashState) → LooksMarked x y a b → LooksMarked y z b c → LooksMarked x z a c
looks_marked x y z a b c p q = record {
  most = p.most + q.most;
  reads = reads_joined p.most q.most a b c p.reads q.reads;
  counted = omega (arith, p.counted, q.counted);
}

-- a look at a page that is marked for it
pub one_marked : (marks after : List Bool) (page : ℕ) (a b : FlashState) → slice_get marks page ≡ Some false → after ≡ set marks page true → ReadsOnly 1 a b → LooksMarked marks after a b
one_marked marks after page a b first is reads =
    let more = ap marked_in is ∙ marked-more marks page first in
    record { most = 1; reads = reads; counted = omega (arith, more) }

pub looks_of : (x y : List Bool) (a b : FlashState) → LooksMarked x y a b → OnlyLooks a b
looks_of x y a b h = record { most = h.most; reads = h.reads }

-- no more looks than there are marks
pub looks_within : (n : ℕ) (x y : List Bool) (a b : FlashState) → x ≡ replicate n false → length y ≡ length x → LooksMarked x y a b → ReadsOnly n a b
looks_within n x y a b none size h =
    let long = size ∙ ap length none ∙ length-replicate n false in
    let most = marked-most y in
    reads_fewer h.most n a b (omega (arith, h.counted, long, most)) h.reads
