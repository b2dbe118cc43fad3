-- Texts put one behind the other, as a record's are.
use Rattle.std.{proofs.Common.{◌≡◌, ℕ, List, ◌++◌, ap, ◌∙◌, append_assoc}}

pub two_fields : (o l a b t o1 o2 o3 r : List ℕ) → o1 ≡ o ++ l → o2 ≡ o1 ++ a → o3 ≡ o2 ++ b → r ≡ o3 ++ t → r ≡ o ++ ((l ++ (a ++ b)) ++ t)
two_fields o l a b t o1 o2 o3 r e1 e2 e3 e4 =
    let front = e3 ∙ ap (λ (x : List ℕ). x ++ b) (e2 ∙ ap (λ (x : List ℕ). x ++ a) e1) in
    e4 ∙ ap (λ (x : List ℕ). x ++ t) front ∙ simp append_assoc

pub three_fields : (o l a b c t o1 o2 o3 o4 r : List ℕ) → o1 ≡ o ++ l → o2 ≡ o1 ++ a → o3 ≡ o2 ++ b → o4 ≡ o3 ++ c → r ≡ o4 ++ t → r ≡ o ++ ((l ++ (a ++ (b ++ c))) ++ t)
three_fields o l a b c t o1 o2 o3 o4 r e1 e2 e3 e4 e5 =
    let front = e3 ∙ ap (λ (x : List ℕ). x ++ b) (e2 ∙ ap (λ (x : List ℕ). x ++ a) e1) in
    e5 ∙ ap (λ (x : List ℕ). x ++ t) (e4 ∙ ap (λ (x : List ℕ). x ++ c) front) ∙ simp append_assoc

pub four_fields : (o l a b c d t o1 o2 o3 o4 o5 r : List ℕ) → o1 ≡ o ++ l → o2 ≡ o1 ++ a → o3 ≡ o2 ++ b → o4 ≡ o3 ++ c → o5 ≡ o4 ++ d → r ≡ o5 ++ t → r ≡ o ++ ((l ++ (a ++ (b ++ (c ++ d)))) ++ t)
four_fields o l a b c d t o1 o2 o3 o4 o5 r e1 e2 e3 e4 e5 e6 =
    let front = e3 ∙ ap (λ (x : List ℕ). x ++ b) (e2 ∙ ap (λ (x : List ℕ). x ++ a) e1) in
    let more = e5 ∙ ap (λ (x : List ℕ). x ++ d) (e4 ∙ ap (λ (x : List ℕ). x ++ c) front) in
    e6 ∙ ap (λ (x : List ℕ). x ++ t) more ∙ simp append_assoc

pub six_fields : (o l a b c d f g t o1 o2 o3 o4 o5 o6 o7 r : List ℕ) → o1 ≡ o ++ l → o2 ≡ o1 ++ a → o3 ≡ o2 ++ b → o4 ≡ o3 ++ c → o5 ≡ o4 ++ d → o6 ≡ o5 ++ f → o7 ≡ o6 ++ g → r ≡ o7 ++ t → r ≡ o ++ ((l ++ (a ++ (b ++ (c ++ (d ++ (f ++ g)))))) ++ t)
six_fields o l a b c d f g t o1 o2 o3 o4 o5 o6 o7 r e1 e2 e3 e4 e5 e6 e7 e8 =
    let front = e3 ∙ ap (λ (x : List ℕ). x ++ b) (e2 ∙ ap (λ (x : List ℕ). x ++ a) e1) in
    let more = e5 ∙ ap (λ (x : List ℕ). x ++ d) (e4 ∙ ap (λ (x : List ℕ). x ++ c) front) in
    let most = e7 ∙ ap (λ (x : List ℕ). x ++ g) (e6 ∙ ap (λ (x : List ℕ). x ++ f) more) in
    e8 ∙ ap (λ (x : List ℕ). x ++ t) most ∙ simp append_assoc

pub seven_fields : (o l a b c d f g h t o1 o2 o3 o4 o5 o6 o7 o8 r : List ℕ) → o1 ≡ o ++ l → o2 ≡ o1 ++ a → o3 ≡ o2 ++ b → o4 ≡ o3 ++ c → o5 ≡ o4 ++ d → o6 ≡ o5 ++ f → o7 ≡ o6 ++ g → o8 ≡ o7 ++ h → r ≡ o8 ++ t → r ≡ o ++ ((l ++ (a ++ (b ++ (c ++ (d ++ (f ++ (g ++ h))))))) ++ t)
seven_fields o l a b c d f g h t o1 o2 o3 o4 o5 o6 o7 o8 r e1 e2 e3 e4 e5 e6 e7 e8 e9 =
    six_fields o l a b c d f (g ++ h) t o1 o2 o3 o4 o5 o6 o8 r e1 e2 e3 e4 e5 e6
    (e8 ∙ ap (λ (x : List ℕ). x ++ h) e7 ∙ append_assoc o6 g h) e9

-- the same, where the last text is another's
pub with_same : (r o b c : List ℕ) → r ≡ o ++ b → b ≡ c → r ≡ o ++ c
with_same r o b c e same = e ∙ ap (λ (x : List ℕ). o ++ x) same
