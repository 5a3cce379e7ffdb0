-- The options of `merge` and `cluster`: what their arguments mean, in any order.
use Rattle.std.proofs.Common.{◌≡◌, ◌∙◌, ◌↔◌, ◌⊎◌, inl, inr, ℕ, zero, suc, ◌<◌, Bool, true, false, true≢false, cond, List, [], ◌∷◌, ◌++◌, Option, Some, None, map, length, get_or, set, swap, refl, sym, ap, subst, arith, append-nil, IsPermutation}
use Rattle.std.specs.Prelude.{if◌then◌else◌, option_and_then, codes, slice_get}
use Rattle.std.specs.Option.{is_some, option_to_list}
use Rattle.std.specs.Str.{bytes_eq}
use Rattle.std.proofs.lemmas.Option.{none-some, same_Some}
use Rattle.std.proofs.lemmas.Slice.Eq.{bytes_eq-Decides}
use Rattle.std.proofs.lemmas.List.Sorted.{IsPermutation-refl, IsPermutation-sym, IsPermutation-trans, IsPermutation-keeps, IsPermutation-middle, IsPermutation-to_front, IsPermutation-append_left, IsPermutation-append_right}
use Rattle.iv_view.specs.Merge.{MergeArgs, said_by, with_flag, with_option, unless_given, nothing_said}
use Rattle.iv_view.specs.Inside.MergeOptions.{MergeOption, Distance, Columns, Ops, Stranded, words_of, option_arguments, options_of}

-- ---- one option

-- this, unless the test holds
abbrev unless : Bool → MergeArgs → Option MergeArgs
unless b next = cond b None (Some next)

-- the options after one more, if it can be given
abbrev taken : MergeOption → MergeArgs → Option MergeArgs
taken (Distance value) said = unless_given said.distance (record said { distance = Some value })
taken (Columns value) said = unless_given said.columns (record said { columns = Some value })
taken (Ops value) said = unless_given said.ops (record said { ops = Some value })
taken Stranded said = with_flag said

-- whether an option of this kind was given before
abbrev has : MergeOption → MergeArgs → Bool
has (Distance value) said = is_some said.distance
has (Columns value) said = is_some said.columns
has (Ops value) said = is_some said.ops
has Stranded said = said.stranded

-- the options with this one
abbrev given : MergeOption → MergeArgs → MergeArgs
given (Distance value) said = record said { distance = Some value }
given (Columns value) said = record said { columns = Some value }
given (Ops value) said = record said { ops = Some value }
given Stranded said = record said { stranded = true }

unless-is : (o : Option (List ℕ)) (next : MergeArgs) → unless_given o next ≡ unless (is_some o) next
unless-is None next = refl
unless-is (Some value) next = refl

taken-is : (a : MergeOption) (said : MergeArgs) → taken a said ≡ unless (has a said) (given a said)
taken-is (Distance value) said = unless-is said.distance (record said { distance = Some value })
taken-is (Columns value) said = unless-is said.columns (record said { columns = Some value })
taken-is (Ops value) said = unless-is said.ops (record said { ops = Some value })
taken-is Stranded said = refl

nothing-more : (o : Option MergeArgs) → o ≡ option_and_then (said_by []) o
nothing-more None = refl
nothing-more (Some said) = refl

-- the first option is taken, and then the other arguments are read
said-first : (a : MergeOption) (arguments : List (List ℕ)) (said : MergeArgs) → said_by (words_of a ++ arguments) said ≡ option_and_then (said_by arguments) (taken a said)
said-first (Distance value) arguments said = refl
said-first (Columns value) arguments said = refl
said-first (Ops value) arguments said = refl
said-first Stranded [] said = nothing-more (with_flag said)
said-first Stranded (next ∷ arguments) said = refl

said-after : (a : MergeOption) (arguments : List (List ℕ)) (said : MergeArgs) → said_by (words_of a ++ arguments) said ≡ option_and_then (said_by arguments) (unless (has a said) (given a said))
said-after a arguments said = said-first a arguments said ∙ ap (option_and_then (said_by arguments)) (taken-is a said)

-- ---- two options

-- neither changes whether the other was given, and the options are the same in either order
abbrev AreApart : MergeOption → MergeOption → MergeArgs → Type 0
AreApart a b said = (has b (given a said) ≡ has b said) × (has a (given b said) ≡ has a said) × (given b (given a said) ≡ given a (given b said))

-- with one the other is given too
abbrev AreAlike : MergeOption → MergeOption → MergeArgs → Type 0
AreAlike a b said = (has b (given a said) ≡ true) × (has a (given b said) ≡ true)

cases-of : (a b : MergeOption) (said : MergeArgs) → AreApart a b said ⊎ AreAlike a b said
cases-of (Distance v) (Distance w) said = inr (refl, refl)
cases-of (Columns v) (Columns w) said = inr (refl, refl)
cases-of (Ops v) (Ops w) said = inr (refl, refl)
cases-of Stranded Stranded said = inr (refl, refl)
cases-of a b said = inl (refl, refl, refl)

both-orders : (p q : Bool) (x y z : MergeArgs) (f g : MergeArgs → Option MergeArgs) → f x ≡ unless q z → g y ≡ unless p z → option_and_then f (unless p x) ≡ option_and_then g (unless q y)
both-orders true true x y z f g h k = refl
both-orders true false x y z f g h k = sym k
both-orders false true x y z f g h k = h
both-orders false false x y z f g h k = h ∙ sym k

never-after : (p : Bool) (x : MergeArgs) (f : MergeArgs → Option MergeArgs) → f x ≡ None → option_and_then f (unless p x) ≡ None
never-after true x f h = refl
never-after false x f h = h

-- what two options mean in one order they mean in the other
swapped : (a b : MergeOption) (said : MergeArgs) → option_and_then (taken b) (taken a said) ≡ option_and_then (taken a) (taken b said)
swapped a b said = ap (option_and_then (taken b)) (taken-is a said) ∙ middle (cases-of a b said) ∙ sym (ap (option_and_then (taken a)) (taken-is b said))
  where
    middle : AreApart a b said ⊎ AreAlike a b said → option_and_then (taken b) (unless (has a said) (given a said)) ≡ option_and_then (taken a) (unless (has b said) (given b said))
    middle (inl apart) =
        both-orders (has a said) (has b said) (given a said) (given b said) (given b (given a said)) (taken b) (taken a)
        (taken-is b (given a said) ∙ ap (λ (t : Bool). unless t (given b (given a said))) apart.0)
        (taken-is a (given b said) ∙ ap (λ (t : Bool). unless t (given a (given b said))) apart.1 ∙ ap (unless (has a said)) (sym apart.2))
    middle (inr alike) =
        never-after (has a said) (given a said) (taken b) (taken-is b (given a said) ∙ ap (λ (t : Bool). unless t (given b (given a said))) alike.0)
        ∙ sym (never-after (has b said) (given b said) (taken a) (taken-is a (given b said) ∙ ap (λ (t : Bool). unless t (given a (given b said))) alike.1))

-- ---- options in any order

then-then : (f g h : MergeArgs → Option MergeArgs) → ((s : MergeArgs) → h s ≡ option_and_then f (g s)) → (o : Option MergeArgs) → option_and_then h o ≡ option_and_then f (option_and_then g o)
then-then f g h is None = refl
then-then f g h is (Some s) = is s

then-same : (f g : MergeArgs → Option MergeArgs) → ((s : MergeArgs) → f s ≡ g s) → (o : Option MergeArgs) → option_and_then f o ≡ option_and_then g o
then-same f g is None = refl
then-same f g is (Some s) = is s

-- options that mean the same, whatever was given before them
abbrev pub SayTheSame : List MergeOption → List MergeOption → Type 0
SayTheSame xs ys = (said : MergeArgs) → said_by (option_arguments xs) said ≡ said_by (option_arguments ys) said

same-after : (a : MergeOption) (xs ys : List MergeOption) → SayTheSame xs ys → SayTheSame (a ∷ xs) (a ∷ ys)
same-after a xs ys same said =
    said-first a (option_arguments xs) said
    ∙ then-same (said_by (option_arguments xs)) (said_by (option_arguments ys)) same (taken a said)
    ∙ sym (said-first a (option_arguments ys) said)

pub same-front : (front xs ys : List MergeOption) → SayTheSame xs ys → SayTheSame (front ++ xs) (front ++ ys)
same-front [] xs ys same = same
same-front (a ∷ front) xs ys same = same-after a (front ++ xs) (front ++ ys) (same-front front xs ys same)

two-first : (a b : MergeOption) (xs : List MergeOption) (said : MergeArgs) → said_by (option_arguments (a ∷ b ∷ xs)) said ≡ option_and_then (said_by (option_arguments xs)) (option_and_then (taken b) (taken a said))
two-first a b xs said =
    said-first a (option_arguments (b ∷ xs)) said
    ∙ then-then (said_by (option_arguments xs)) (taken b) (said_by (option_arguments (b ∷ xs))) (said-first b (option_arguments xs)) (taken a said)

-- neighbours may be exchanged
pub same-swapped : (a b : MergeOption) (xs : List MergeOption) → SayTheSame (a ∷ b ∷ xs) (b ∷ a ∷ xs)
same-swapped a b xs said = two-first a b xs said ∙ ap (option_and_then (said_by (option_arguments xs))) (swapped a b said) ∙ sym (two-first b a xs said)

-- an option is exchanged with the first
same-moved : (xs : List MergeOption) (j : ℕ) (x d : MergeOption) → j < length xs → SayTheSame (get_or xs j d ∷ set xs j x) (x ∷ xs)
same-moved [] j x d low said = absurd (omega arith)
same-moved (z ∷ xs) zero x d low said = same-swapped z x xs said
same-moved (z ∷ xs) (suc j) x d low said =
    same-swapped (get_or xs j d) z (set xs j x) said
    ∙ same-after z (get_or xs j d ∷ set xs j x) (x ∷ xs) (same-moved xs j x d (omega arith)) said
    ∙ same-swapped z x xs said

-- any two options are exchanged
same-exchanged : (xs : List MergeOption) (i j : ℕ) (d : MergeOption) → i < length xs → j < length xs → SayTheSame (set (set xs i (get_or xs j d)) j (get_or xs i d)) xs
same-exchanged [] i j d low high said = absurd (omega arith)
same-exchanged (x ∷ xs) zero zero d low high said = refl
same-exchanged (x ∷ xs) zero (suc j) d low high said = same-moved xs j x d (omega arith) said
same-exchanged (x ∷ xs) (suc i) zero d low high said = same-moved xs i x d (omega arith) said
same-exchanged (x ∷ xs) (suc i) (suc j) d low high said =
    same-after x (set (set xs i (get_or xs j d)) j (get_or xs i d)) xs (same-exchanged xs i j d (omega arith) (omega arith)) said

same-swap : (xs : List MergeOption) (i j : ℕ) → i < length xs → j < length xs → SayTheSame (swap xs i j) xs
same-swap [] i j low high said = refl
same-swap (d ∷ xs) i j low high said = same-exchanged (d ∷ xs) i j d low high said

same-permuted : (xs ys : List MergeOption) → IsPermutation xs ys → SayTheSame ys xs
same-permuted xs ys = IsPermutation-keeps xs (λ l. SayTheSame l xs) (λ said. refl) (λ l i j low high same said. same-swap l i j low high said ∙ same said) ys

-- ---- what the options that are given mean

abbrev said_of : (d c o : Option (List ℕ)) (s : Bool) → MergeArgs
said_of d c o s = record { distance = d; columns = c; ops = o; stranded = s }

own-said : (d c o : Option (List ℕ)) (s : Bool) → said_by (option_arguments (options_of (said_of d c o s))) nothing_said ≡ Some (said_of d c o s)
own-said None None None false = refl
own-said None None None true = refl
own-said None None (Some o) false = refl
own-said None None (Some o) true = refl
own-said None (Some c) None false = refl
own-said None (Some c) None true = refl
own-said None (Some c) (Some o) false = refl
own-said None (Some c) (Some o) true = refl
own-said (Some d) None None false = refl
own-said (Some d) None None true = refl
own-said (Some d) None (Some o) false = refl
own-said (Some d) None (Some o) true = refl
own-said (Some d) (Some c) None false = refl
own-said (Some d) (Some c) None true = refl
own-said (Some d) (Some c) (Some o) false = refl
own-said (Some d) (Some c) (Some o) true = refl

-- ---- arguments that mean something

-- the arguments are those of some options
abbrev AreOptions : List (List ℕ) → Type 0
AreOptions arguments = (options : List MergeOption) × (arguments ≡ option_arguments options)

then-some : (f : MergeArgs → Option MergeArgs) (o : Option MergeArgs) (new : MergeArgs) → option_and_then f o ≡ Some new → (mid : MergeArgs) × (f mid ≡ Some new)
then-some f None new is = absurd (none-some new is)
then-some f (Some mid) new is = (mid, is)

-- the argument is that of an option with this value
abbrev IsNamed : List ℕ → List ℕ → Type 0
IsNamed argument value = (a : MergeOption) × (argument ∷ value ∷ [] ≡ words_of a)

named : (argument value : List ℕ) (old new : MergeArgs) → with_option argument value old ≡ Some new → IsNamed argument value
named argument value old new is = by (bytes_eq argument (codes "-d")) refl (bytes_eq argument (codes "-c")) refl (bytes_eq argument (codes "-o")) refl is
  where
    by : (b : Bool) → bytes_eq argument (codes "-d") ≡ b → (c : Bool) → bytes_eq argument (codes "-c") ≡ c → (d : Bool) → bytes_eq argument (codes "-o") ≡ d
        → (if b then unless_given old.distance (given (Distance value) old) else (if c then unless_given old.columns (given (Columns value) old) else (if d then unless_given old.ops (given (Ops value) old) else None))) ≡ Some new
        → IsNamed argument value
    by true e c f d g is = (Distance value, ap (λ (w : List ℕ). w ∷ value ∷ []) ((bytes_eq-Decides argument (codes "-d")).0 e))
    by false e true f d g is = (Columns value, ap (λ (w : List ℕ). w ∷ value ∷ []) ((bytes_eq-Decides argument (codes "-c")).0 f))
    by false e false f true g is = (Ops value, ap (λ (w : List ℕ). w ∷ value ∷ []) ((bytes_eq-Decides argument (codes "-o")).0 g))
    by false e false f false g is = absurd (none-some new is)

read-one : (argument : List ℕ) (old new : MergeArgs) (b : Bool) → bytes_eq argument (codes "-s") ≡ b → (if b then with_flag old else None) ≡ Some new → AreOptions (argument ∷ [])
read-one argument old new true e is = (Stranded ∷ [], ap (λ (w : List ℕ). w ∷ []) ((bytes_eq-Decides argument (codes "-s")).0 e))
read-one argument old new false e is = absurd (none-some new is)

read-more : (argument next : List ℕ) (arguments : List (List ℕ)) (old new : MergeArgs)
    → ((mid : MergeArgs) → said_by (next ∷ arguments) mid ≡ Some new → AreOptions (next ∷ arguments)) → ((mid : MergeArgs) → said_by arguments mid ≡ Some new → AreOptions arguments)
    → (b : Bool) → bytes_eq argument (codes "-s") ≡ b → (o : Option MergeArgs) → with_option argument next old ≡ o
    → (if b then option_and_then (said_by (next ∷ arguments)) (with_flag old) else option_and_then (said_by arguments) o) ≡ Some new
    → AreOptions (argument ∷ next ∷ arguments)
read-more argument next arguments old new one two true e o at is =
    let mid = then-some (said_by (next ∷ arguments)) (with_flag old) new is in
    let rest = one mid.0 mid.1 in
    (Stranded ∷ rest.0, (λ i. (bytes_eq-Decides argument (codes "-s")).0 e i ∷ rest.1 i))
read-more argument next arguments old new one two false e None at is = absurd (none-some new is)
read-more argument next arguments old new one two false e (Some mid) at is =
    let rest = two mid is in
    let name = named argument next old mid at in
    (name.0 ∷ rest.0, (λ i. argument ∷ next ∷ rest.1 i) ∙ ap (λ (l : List (List ℕ)). l ++ option_arguments rest.0) name.1)

read-options : (arguments : List (List ℕ)) (old new : MergeArgs) → said_by arguments old ≡ Some new → AreOptions arguments
read-options [] old new is = ([], refl)
read-options (argument ∷ []) old new is = read-one argument old new (bytes_eq argument (codes "-s")) refl is
read-options (argument ∷ next ∷ arguments) old new is =
    read-more argument next arguments old new (λ mid. read-options (next ∷ arguments) mid new) (λ mid. read-options arguments mid new) (bytes_eq argument (codes "-s")) refl (with_option argument next old) refl is

-- ---- what they mean are just their options

in-place : (front after : List MergeOption) (a : MergeOption) → IsPermutation (a ∷ ((front ++ []) ++ after)) ((front ++ a ∷ []) ++ after)
in-place front after a =
    subst (λ (l : List MergeOption). IsPermutation (a ∷ (l ++ after)) ((front ++ a ∷ []) ++ after)) (sym (append-nil front))
    (IsPermutation-sym ((front ++ a ∷ []) ++ after) ((a ∷ front) ++ after) (IsPermutation-append_left after (front ++ a ∷ []) (a ∷ front) (IsPermutation-to_front front a)))

at-end : (front : List MergeOption) (a : MergeOption) → IsPermutation (a ∷ (front ++ [])) (front ++ a ∷ [])
at-end front a =
    subst (λ (l : List MergeOption). IsPermutation (a ∷ l) (front ++ a ∷ [])) (sym (append-nil front))
    (IsPermutation-sym (front ++ a ∷ []) (a ∷ front) (IsPermutation-to_front front a))

abbrev all_distances : MergeArgs → List MergeOption
all_distances said = map Distance (option_to_list said.distance)

abbrev all_columns : MergeArgs → List MergeOption
all_columns said = map Columns (option_to_list said.columns)

abbrev all_ops : MergeArgs → List MergeOption
all_ops said = map Ops (option_to_list said.ops)

abbrev all_flags : MergeArgs → List MergeOption
all_flags said = if said.stranded then Stranded ∷ [] else []

-- an option more is one more of those given
given-options : (a : MergeOption) (said : MergeArgs) → has a said ≡ false → IsPermutation (a ∷ options_of said) (options_of (given a said))
given-options (Distance value) said free = by said.distance free
  where
    by : (o : Option (List ℕ)) → is_some o ≡ false → IsPermutation (Distance value ∷ (map Distance (option_to_list o) ++ all_columns said ++ all_ops said ++ all_flags said)) (Distance value ∷ (all_columns said ++ all_ops said ++ all_flags said))
    by None free = IsPermutation-refl (Distance value ∷ (all_columns said ++ all_ops said ++ all_flags said))
    by (Some v) free = absurd (true≢false free)
given-options (Columns value) said free = by said.columns free
  where
    by : (o : Option (List ℕ)) → is_some o ≡ false → IsPermutation (Columns value ∷ (all_distances said ++ map Columns (option_to_list o) ++ all_ops said ++ all_flags said)) (all_distances said ++ (Columns value ∷ []) ++ all_ops said ++ all_flags said)
    by None free =
        IsPermutation-append_left (all_flags said) (Columns value ∷ ((all_distances said ++ []) ++ all_ops said)) ((all_distances said ++ Columns value ∷ []) ++ all_ops said)
        (in-place (all_distances said) (all_ops said) (Columns value))
    by (Some v) free = absurd (true≢false free)
given-options (Ops value) said free = by said.ops free
  where
    by : (o : Option (List ℕ)) → is_some o ≡ false → IsPermutation (Ops value ∷ (all_distances said ++ all_columns said ++ map Ops (option_to_list o) ++ all_flags said)) (all_distances said ++ all_columns said ++ (Ops value ∷ []) ++ all_flags said)
    by None free = in-place (all_distances said ++ all_columns said) (all_flags said) (Ops value)
    by (Some v) free = absurd (true≢false free)
given-options Stranded said free = by said.stranded free
  where
    by : (b : Bool) → b ≡ false → IsPermutation (Stranded ∷ (all_distances said ++ all_columns said ++ all_ops said ++ (if b then Stranded ∷ [] else []))) (all_distances said ++ all_columns said ++ all_ops said ++ (Stranded ∷ []))
    by true free = absurd (true≢false free)
    by false free = at-end (all_distances said ++ all_columns said ++ all_ops said) Stranded

-- the options that were given before, and those that are read, are those that are given
holds-first : (a : MergeOption) (options : List MergeOption) (old new : MergeArgs)
    → ((mid : MergeArgs) → said_by (option_arguments options) mid ≡ Some new → IsPermutation (options ++ options_of mid) (options_of new))
    → said_by (option_arguments (a ∷ options)) old ≡ Some new → IsPermutation (a ∷ (options ++ options_of old)) (options_of new)
holds-first a options old new next is = by (has a old) refl (sym (said-after a (option_arguments options) old) ∙ is)
  where
    by : (b : Bool) → has a old ≡ b → option_and_then (said_by (option_arguments options)) (unless (has a old) (given a old)) ≡ Some new
        → IsPermutation (a ∷ (options ++ options_of old)) (options_of new)
    by true there is =
        absurd (none-some new (ap (λ (t : Bool). option_and_then (said_by (option_arguments options)) (unless t (given a old))) (sym there) ∙ is))
    by false free is =
        let rest : said_by (option_arguments options) (given a old) ≡ Some new =
        ap (λ (t : Bool). option_and_then (said_by (option_arguments options)) (unless t (given a old))) (sym free) ∙ is in
        IsPermutation-trans (a ∷ (options ++ options_of old)) (options ++ a ∷ options_of old) (options_of new)
        (IsPermutation-sym (options ++ a ∷ options_of old) (a ∷ (options ++ options_of old)) (IsPermutation-middle options a (options_of old)))
        (IsPermutation-trans (options ++ a ∷ options_of old) (options ++ options_of (given a old)) (options_of new)
        (IsPermutation-append_right options (a ∷ options_of old) (options_of (given a old)) (given-options a old free))
        (next (given a old) rest))

holds : (options : List MergeOption) (old new : MergeArgs) → said_by (option_arguments options) old ≡ Some new → IsPermutation (options ++ options_of old) (options_of new)
holds [] old new is = subst (λ (s : MergeArgs). IsPermutation (options_of old) (options_of s)) (same_Some old new is) (IsPermutation-refl (options_of old))
holds (a ∷ options) old new is = holds-first a options old new (λ mid. holds options mid new) is

-- the arguments are those of the options that are given, in some order
abbrev pub AreArgumentsOf : List (List ℕ) → MergeArgs → Type 0
AreArgumentsOf arguments said = (options : List MergeOption) × (arguments ≡ option_arguments options) × IsPermutation options (options_of said)

said-options : (arguments : List (List ℕ)) (said : MergeArgs) → said_by arguments nothing_said ≡ Some said → AreArgumentsOf arguments said
said-options arguments said is =
    let read = read-options arguments nothing_said said is in
    let all : IsPermutation (read.0 ++ []) (options_of said) = holds read.0 nothing_said said (ap (λ (l : List (List ℕ)). said_by l nothing_said) (sym read.1) ∙ is) in
    (read.0, read.1, subst (λ (l : List MergeOption). IsPermutation l (options_of said)) (append-nil read.0) all)

options-said : (arguments : List (List ℕ)) (said : MergeArgs) → AreArgumentsOf arguments said → said_by arguments nothing_said ≡ Some said
options-said arguments said are =
    ap (λ (l : List (List ℕ)). said_by l nothing_said) are.1
    ∙ sym (same-permuted are.0 (options_of said) are.2 nothing_said)
    ∙ own-said said.distance said.columns said.ops said.stranded

pub said-means : (arguments : List (List ℕ)) (said : MergeArgs) → (said_by arguments nothing_said ≡ Some said) ↔ AreArgumentsOf arguments said
said-means arguments said = (said-options arguments said, options-said arguments said)

-- ---- an option that comes twice

still-has : (c b : MergeOption) (said : MergeArgs) → has b said ≡ true → has b (given c said) ≡ true
still-has c b said there = elim (cases-of c b said) [
  | inl apart ↦ apart.0 ∙ there
  | inr alike ↦ alike.0
]

never-again : (middle after : List MergeOption) (b : MergeOption) (said : MergeArgs) → has b said ≡ true → said_by (option_arguments (middle ++ b ∷ after)) said ≡ None
never-again [] after b said there =
    said-after b (option_arguments after) said ∙ ap (λ (t : Bool). option_and_then (said_by (option_arguments after)) (unless t (given b said))) there
never-again (c ∷ middle) after b said there =
    said-after c (option_arguments (middle ++ b ∷ after)) said
    ∙ never-after (has c said) (given c said) (said_by (option_arguments (middle ++ b ∷ after))) (never-again middle after b (given c said) (still-has c b said there))

then-never : (f : MergeArgs → Option MergeArgs) → ((s : MergeArgs) → f s ≡ None) → (o : Option MergeArgs) → option_and_then f o ≡ None
then-never f never None = refl
then-never f never (Some s) = never s

never-front : (front rest : List MergeOption) → ((s : MergeArgs) → said_by (option_arguments rest) s ≡ None) → (said : MergeArgs) → said_by (option_arguments (front ++ rest)) said ≡ None
never-front [] rest never said = never said
never-front (c ∷ front) rest never said =
    said-first c (option_arguments (front ++ rest)) said
    ∙ then-never (said_by (option_arguments (front ++ rest))) (never-front front rest never) (taken c said)

two-words : (x y : List ℕ) → bytes_eq x x ≡ true → bytes_eq x y ≡ false → Some x ≡ Some y → ⊥
two-words x y own other same = true≢false (sym own ∙ ap (bytes_eq x) (same_Some x y same) ∙ other)

one-kind : (a b : MergeOption) → slice_get (words_of a) 0 ≡ slice_get (words_of b) 0 → (said : MergeArgs) → has b (given a said) ≡ true
one-kind (Distance v) (Distance w) same said = refl
one-kind (Columns v) (Columns w) same said = refl
one-kind (Ops v) (Ops w) same said = refl
one-kind Stranded Stranded same said = refl
one-kind a b same said = absurd (two-words (get_or (words_of a) 0 []) (get_or (words_of b) 0 []) refl refl same)

pub never-twice : (front middle after : List MergeOption) (a b : MergeOption) → slice_get (words_of a) 0 ≡ slice_get (words_of b) 0 → said_by (option_arguments (front ++ a ∷ (middle ++ b ∷ after))) nothing_said ≡ None
never-twice front middle after a b same =
    never-front front (a ∷ (middle ++ b ∷ after))
    (λ said.
    said-after a (option_arguments (middle ++ b ∷ after)) said
    ∙ never-after (has a said) (given a said) (said_by (option_arguments (middle ++ b ∷ after))) (never-again middle after b (given a said) (one-kind a b same said)))
    nothing_said
