-- What a line and a whole text are made of.
use Rattle.std.proofs.Common.{◌≡◌, ℕ, List, ◌++◌, Some, None, codes, Option, Bor, ap, ◌∙◌}
use Rattle.std.proofs.lemmas.List.{append_assoc}
use Rattle.std.specs.List.{slice_get}
use Rattle.std.specs.Option.{option_map}
use Rattle.table.specs.Judged.{agreeing_of}
use Rattle.verdict.specs.Texts.{line_words, line_at}

-- a line, from what the plan makes of the clause at its position
pub line_is : (kind : List ℕ) (i : ℕ) (Cs : List (List ℕ)) (codes C : List ℕ) (plan : Option (Bor (List ℕ))) (truth : Option (Option ℕ))
    → codes ≡ C → slice_get Cs i ≡ Some C → truth ≡ option_map (λ p. agreeing_of p.now (slice_get Cs i)) plan
    → line_words kind i codes truth ≡ line_at kind (option_map (λ x. x.now) plan) i C
line_is kind i Cs codes C None truth e is made = ap (λ D. line_words kind i D truth) e ∙ ap (line_words kind i C) made
line_is kind i Cs codes C (Some p) truth e is made =
    ap (λ D. line_words kind i D truth) e ∙ ap (line_words kind i C) (made ∙ ap (λ o. Some (agreeing_of p.now o)) is)

-- a text, from its lines
pub text_is : (hour clauses pins answer verdict : List ℕ)
    → codes "sheet: " ++ (hour ++ (codes "\n" ++ (clauses ++ (pins ++ (codes "answer: " ++ (answer ++ (codes "\nverdict: " ++ (verdict ++ codes "\n"))))))))
    ≡ (codes "sheet: " ++ (hour ++ codes "\n")) ++ (clauses ++ (pins ++ ((codes "answer: " ++ (answer ++ codes "\n")) ++ (codes "verdict: " ++ (verdict ++ codes "\n")))))
text_is hour clauses pins answer verdict = simp append_assoc
