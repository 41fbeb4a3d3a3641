-- What is known of an answer, in other words.
use Rattle.std.proofs.Common.{◌≡◌, List, [], ◌∷◌, ◌++◌, append_assoc, IfOk, ap, ◌∙◌, subst}
use Rattle.std.specs.Prelude.{Result, OnOk}
use Rattle.dl_tree.specs.declared.tree.Tree.{Tree}

pub moved : {X E : Type 0} (answer : Result X E) (x y : X) → IfOk answer (λ z. z ≡ x) → x ≡ y → IfOk answer (λ z. z ≡ y)
moved answer x y known same = subst (λ w. IfOk answer (λ z. z ≡ w)) same known

pub put-moved : {X E : Type 0} (answer : Result X E) (parts before after : List Tree) → OnOk answer (parts ≡ before) → before ≡ after → OnOk answer (parts ≡ after)
put-moved answer parts before after known same = subst (λ (w : List Tree). OnOk answer (parts ≡ w)) same known

-- four trees that are put behind others, one after another
pub four-more : (old one two three : List Tree) (a b x y p q r s : Tree) → one ≡ old ++ a ∷ [] → two ≡ one ++ b ∷ [] → three ≡ two ++ x ∷ [] →
    a ≡ p → b ≡ q → x ≡ r → y ≡ s → three ++ y ∷ [] ≡ old ++ (p ∷ q ∷ r ∷ s ∷ [])
four-more old one two three a b x y p q r s one_is two_is three_is a_is b_is x_is y_is =
    ap (λ (parts : List Tree). parts ++ y ∷ []) (three_is ∙ ap (λ (parts : List Tree). parts ++ x ∷ []) (two_is ∙ ap (λ (parts : List Tree). parts ++ b ∷ []) one_is))
    ∙ (append_assoc ((old ++ a ∷ []) ++ b ∷ []) (x ∷ []) (y ∷ [])
    ∙ (append_assoc (old ++ a ∷ []) (b ∷ []) (x ∷ y ∷ [])
    ∙ (append_assoc old (a ∷ []) (b ∷ x ∷ y ∷ [])
    ∙ (ap (λ (t : Tree). old ++ (t ∷ b ∷ x ∷ y ∷ [])) a_is
    ∙ (ap (λ (t : Tree). old ++ (p ∷ t ∷ x ∷ y ∷ [])) b_is
    ∙ (ap (λ (t : Tree). old ++ (p ∷ q ∷ t ∷ y ∷ [])) x_is ∙ ap (λ (t : Tree). old ++ (p ∷ q ∷ r ∷ t ∷ [])) y_is))))))
