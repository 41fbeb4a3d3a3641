-- Whether two calls are the same.
use Rattle.std.specs.Prelude.{ℤ, Bool, true, false, ◌&&◌, ◌==◌, Option, Some, None}
use Rattle.std.specs.Ordering.{int_eq}
use Rattle.std.specs.Cmp.Lexicographic.{pointwise}
use Rattle.dl_model.specs.declared.history.Args.{Args}
use Rattle.dl_model.specs.declared.history.Call.{Call}
use Rattle.dl_model.specs.declared.history.Call.TheVariants.{Send, Poll, Await, Read}

abbrev pub same_args : Args → Args → Bool
same_args a b = (a.count == b.count) && pointwise int_eq a.values b.values

abbrev pub same_index : Option ℤ → Option ℤ → Bool
same_index None None = true
same_index None (Some y) = false
same_index (Some x) None = false
same_index (Some x) (Some y) = int_eq x y

abbrev pub same_call : Call → Call → Bool
same_call (Send label tag to args) (Send label' tag' to' args') = (label == label') && ((tag == tag') && (int_eq to to' && same_args args args'))
same_call (Send label tag to args) (Poll label' tag') = false
same_call (Send label tag to args) (Await label' tag') = false
same_call (Send label tag to args) (Read label' field' index') = false
same_call (Poll label tag) (Send label' tag' to' args') = false
same_call (Poll label tag) (Poll label' tag') = (label == label') && (tag == tag')
same_call (Poll label tag) (Await label' tag') = false
same_call (Poll label tag) (Read label' field' index') = false
same_call (Await label tag) (Send label' tag' to' args') = false
same_call (Await label tag) (Poll label' tag') = false
same_call (Await label tag) (Await label' tag') = (label == label') && (tag == tag')
same_call (Await label tag) (Read label' field' index') = false
same_call (Read label field index) (Send label' tag' to' args') = false
same_call (Read label field index) (Poll label' tag') = false
same_call (Read label field index) (Await label' tag') = false
same_call (Read label field index) (Read label' field' index') = (label == label') && ((field == field') && same_index index index')
