-- Fronts of lines whose text is kept.
use Rattle.std.specs.Prelude.{◌≡◌, true, decimal, codes, if◌then◌else◌, List, [], ◌∷◌}
use Rattle.dl_model.specs.declared.file.Decls.{Decls}
use Rattle.dl_report.specs.declared.front.Said.{Said}
use Rattle.dl_report.specs.declared.front.Front.{Front}
use Rattle.dl_report.specs.declared.front.Fronts.{Fronts}
use Rattle.dl_report.specs.Layout.{Text, node_word, tag_word, addressee_word}
use Rattle.dl_report.specs.Spaced.{spaced}

-- an await, or a send without arguments, and the arrow
abbrev pub said_words : List Text → Decls → Said → List Text
said_words names decls said = if said.waits then codes "await" ∷ tag_word names decls said.label said.tag ∷ codes "->" ∷ [] else codes "send" ∷ tag_word names decls said.label said.tag ∷ addressee_word names decls said.to ∷ codes "->" ∷ []

abbrev pub front_words : List Text → Decls → Said → List Text
front_words names decls said = node_word names said.node ∷ decimal said.ticks ∷ said_words names decls said

abbrev pub IsKept : List Text → Decls → Front → Type 0
IsKept names decls front = front.known ≡ true → front.text.items ≡ spaced (front_words names decls front.said)

pub record AreKept (names : List Text) (decls : Decls) (fronts : Fronts) : Type 0 where
  pub even_sends : IsKept names decls fronts.even_sends
  pub odd_sends : IsKept names decls fronts.odd_sends
  pub even_waits : IsKept names decls fronts.even_waits
  pub odd_waits : IsKept names decls fronts.odd_waits
