-- What the code's view of the constants stands for. Only the crate's private clauses cite it.
use Rattle.std.specs.Prelude.{ℤ, List, ◌++◌, map}
use Rattle.dl_model.specs.Lookup.{arg_names}
use Rattle.dl_forms.specs.Context.{Text}
use Rattle.dl_forms.specs.Scope.{text_at}
use Rattle.dl_notation.specs.Rules.{other_words}
use Rattle.dl_means.specs.declared.words.Words.{Words}

-- the names that hide constants
abbrev pub hidden_in : Words → List Text
hidden_in words = map (text_at words.names.now) (arg_names words.params.now ++ words.locals.now)

abbrev pub words_of : Words → List (Text × ℤ)
words_of words = other_words (hidden_in words) words.declared.now.words
