-- The parts of a completion, one after another.
use Rattle.std.proofs.Common.{◌≡◌, ℕ, List, Option, ap, ◌∙◌}
use Rattle.fdp_rules.specs.PlainState.{Going, PlainState}

-- a change, then the write that is going no longer, then the moment
pub completed : (moments : List ℕ → List ℕ) (ended : (ℕ → Option Going) → ℕ → Option Going) (s done s1 s2 s3 : PlainState) → s1 ≡ done → s2 ≡ record s1 { going = ended s1.going } → s3 ≡ record s2 { media = moments s2.media } → s1.going ≡ s.going → s2.media ≡ s.media → s3 ≡ record done { going = ended s.going; media = moments s.media }
completed moments ended s done s1 s2 s3 change end note going media =
    note
    ∙ ap (λ (m : List ℕ). let x : PlainState = record s2 { media = moments m } in x) media
    ∙ ap (λ (p : PlainState). let x : PlainState = record p { media = moments s.media } in x) end
    ∙ ap (λ (g : ℕ → Option Going). let x : PlainState = record s1 { going = ended g; media = moments s.media } in x) going
    ∙ ap (λ (p : PlainState). let x : PlainState = record p { going = ended s.going; media = moments s.media } in x) change
