-- The pieces of the line of a summary.
use Rattle.std.proofs.Common.{◌≡◌, ℕ, List, [], ◌∷◌, ◌++◌, refl, sym, ◌∙◌, ap, append_assoc, codes}
use Rattle.fdp_base.specs.Text.{line, spaced}

-- words with a space in front of each, and what follows them
run : List (List ℕ) → List ℕ → List ℕ
run [] rest = rest
run (word ∷ words) rest = 32 ∷ (word ++ run words rest)

spaced_run : (word : List ℕ) (words : List (List ℕ)) (rest : List ℕ) → spaced (word ∷ words) ++ rest ≡ word ++ run words rest
unfolding run
spaced_run word [] rest = refl
spaced_run word (next ∷ words) rest =
    append_assoc word (32 ∷ spaced (next ∷ words)) rest ∙ ap (λ (xs : List ℕ). word ++ 32 ∷ xs) (spaced_run next words rest)

-- a name and what follows it, with a space in front of each
abbrev pub named : List ℕ → List ℕ → List ℕ
named name value = 32 ∷ name ++ 32 ∷ value

-- a piece and what is behind it
before : (old new piece rest all : List ℕ) → new ≡ old ++ piece → all ≡ new ++ rest → all ≡ old ++ (piece ++ rest)
before old new piece rest all is whole = whole ∙ ap (λ (xs : List ℕ). xs ++ rest) is ∙ append_assoc old piece rest

pub line_pushed : (into a b c d e f g h word commands ok hbmw read same : List ℕ)
    → a ≡ into ++ codes "make " → b ≡ a ++ word → c ≡ b ++ named (codes "commands") commands → d ≡ c ++ named (codes "ok") ok
    → e ≡ d ++ named (codes "hbmw") hbmw → f ≡ e ++ named (codes "read") read → g ≡ f ++ named (codes "same") same → h ≡ g ++ 10 ∷ []
    → h ≡ into ++ line (codes "make" ∷ word ∷ codes "commands" ∷ commands ∷ codes "ok" ∷ ok ∷ codes "hbmw" ∷ hbmw ∷ codes "read" ∷ read ∷ codes "same" ∷ same ∷ [])
unfolding run
line_pushed into a b c d e f g h word commands ok hbmw read same a_is b_is c_is d_is e_is f_is g_is h_is =
    let end : List ℕ = 10 ∷ [] in
    let from_same : List ℕ = run (codes "same" ∷ same ∷ []) end in
    let from_read : List ℕ = run (codes "read" ∷ read ∷ codes "same" ∷ same ∷ []) end in
    let from_hbmw : List ℕ = run (codes "hbmw" ∷ hbmw ∷ codes "read" ∷ read ∷ codes "same" ∷ same ∷ []) end in
    let from_ok : List ℕ = run (codes "ok" ∷ ok ∷ codes "hbmw" ∷ hbmw ∷ codes "read" ∷ read ∷ codes "same" ∷ same ∷ []) end in
    let words : List (List ℕ) = word ∷ codes "commands" ∷ commands ∷ codes "ok" ∷ ok ∷ codes "hbmw" ∷ hbmw ∷ codes "read" ∷ read ∷ codes "same" ∷ same ∷ [] in
    let from_commands : List ℕ = run (codes "commands" ∷ commands ∷ codes "ok" ∷ ok ∷ codes "hbmw" ∷ hbmw ∷ codes "read" ∷ read ∷ codes "same" ∷ same ∷ []) end in
    let at_same : h ≡ f ++ from_same = before f g (named (codes "same") same) end h g_is h_is in
    let at_read : h ≡ e ++ from_read = before e f (named (codes "read") read) from_same h f_is at_same in
    let at_hbmw : h ≡ d ++ from_hbmw = before d e (named (codes "hbmw") hbmw) from_read h e_is at_read in
    let at_ok : h ≡ c ++ from_ok = before c d (named (codes "ok") ok) from_hbmw h d_is at_hbmw in
    let at_commands : h ≡ b ++ from_commands = before b c (named (codes "commands") commands) from_ok h c_is at_ok in
    let at_word : h ≡ a ++ (word ++ from_commands) = before a b word from_commands h b_is at_commands in
    let whole : h ≡ into ++ (codes "make" ++ run words end) = before into a (codes "make ") (word ++ from_commands) h a_is at_word in
    whole ∙ ap (λ (xs : List ℕ). into ++ xs) (sym (spaced_run (codes "make") words end))
