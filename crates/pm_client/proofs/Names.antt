-- Names given to one step more.
use Rattle.std.proofs.Common.{◌≡◌, ℕ, ◌+◌, List, [], ◌∷◌, ◌++◌, length, ap, ◌∙◌, arith}
use Rattle.pm_client.specs.Clients.{named}

pub named-push : {C : Type 0} (client serial : ℕ) (cs : List C) (c : C)
    → named client serial (cs ++ c ∷ []) ≡ named client serial cs ++ record { name = record { client = client; serial = serial + length cs }; change = c } ∷ []
named-push client serial [] c = let e : serial ≡ serial + 0 = omega arith in ap (λ n. record { name = record { client = client; serial = n }; change = c } ∷ []) e
named-push client serial (d ∷ cs) c =
    let e : serial + 1 + length cs ≡ serial + length (d ∷ cs) = omega arith in
    ap (λ l. record { name = record { client = client; serial = serial }; change = d } ∷ l)
    (named-push client (serial + 1) cs c ∙ ap (λ n. named client (serial + 1) cs ++ record { name = record { client = client; serial = n }; change = c } ∷ []) e)
