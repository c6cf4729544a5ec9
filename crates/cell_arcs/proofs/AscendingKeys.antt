-- The keys of each table that a document writes ascend.
use Rattle.std.proofs.Common.{◌≡◌, ℕ, zero, suc, Bool, true, false, ◌==◌, ◌&&◌, List, [], ◌∷◌, ◌++◌, length, drop, slice_index, codes, Option, Some, None, option_map, option_and_then, Ordering, Less, Equal, Greater, nat_cmp, refl, ap, subst, ◌∙◌, if◌then◌else◌}
use Rattle.std.specs.List.{AllByRecursion}
use Rattle.std.specs.List.Sorted.{IsStrictlySortedBy}
use Rattle.std.specs.Str.{is_utf8}
use Rattle.std.specs.Ordering.{match_ordering, ordering_reverse}
use Rattle.std.specs.Cmp.Lexicographic.{slice_cmp}
use Rattle.std.proofs.lemmas.Cmp.{nat_list_cmp_total}
use Rattle.toml_parser.specs.Lexical.{Read, first, left_bracket, right_bracket, left_brace, right_brace, skip_blank, skip_ws}
use Rattle.toml_parser.specs.Strings.{Key, quoted, starts_string, recursion_limit}
use Rattle.toml_parser.specs.Numbers.{unquoted}
use Rattle.toml_parser.specs.declared.scalar.Scalar.{Scalar}
use Rattle.toml_parser.specs.declared.scalar.Scalar.TheVariants.{Boolean, Integer, Float, Datetime}
use Rattle.toml.specs.Data.{Data, string, array, table, no_items, Members, get_member, same_key, push_item}
use Rattle.toml.specs.Tables.{Origin, implicit, dotted, header, Node, Nodes, no_nodes, node, value, open_table, open_array, get_node, insert, replace, close, close_node, Edit, header_node, dot_node, by_header, by_dot, along_header, along_dots, Definition, Expression, key_value, std_table, array_table, new_node, redefine, at_found, at_key, put, Document, define_as, define}
use Rattle.toml.specs.Parse.{read_map, after_byte, after_element, key_equals, keyval, items, members, scalar_data, atom, val, header_key, expression, ends_line, line, lines, skip_bom, parse_document}
use Rattle.cell_arcs.specs.IsLibrary.{member_keys, HasAscendingKeys, CountsCellsByName}

-- the one key comes before the other
abbrev IsBefore : List ℕ → List ℕ → Type 0
IsBefore k l = slice_cmp nat_cmp k l ≡ Less

abbrev Ascend : List (List ℕ) → Type 0
Ascend keys = IsStrictlySortedBy (slice_cmp nat_cmp) keys

-- each key of the nodes comes after k
abbrev KeysAfter : List ℕ → Nodes → Type 0
KeysAfter k no_nodes = Unit {0}
KeysAfter k (node l x ns) = IsBefore k l × KeysAfter k ns

-- the keys ascend here and in each table within; an array is no table
abbrev mutual
  NodeAscends : Node → Type 0
  NodeAscends (value d) = HasAscendingKeys (Some d)
  NodeAscends (open_table origin ns) = NodesAscend ns
  NodeAscends (open_array done ns) = Unit {0}

  NodesAscend : Nodes → Type 0
  NodesAscend no_nodes = Unit {0}
  NodesAscend (node k x ns) = KeysAfter k ns × NodeAscends x × NodesAscend ns

-- ---- steps that may give nothing

map_some : {A B : Type 0} (f : A → B) (o : Option A) (y : B) → option_map f o ≡ Some y → (x : A) × (o ≡ Some x) × (f x ≡ y)
map_some f None y h = cc
map_some f (Some x) y h = (x, refl, cc)

bind_some : {A B : Type 0} (f : A → Option B) (o : Option A) (y : B) → option_and_then f o ≡ Some y → (x : A) × (o ≡ Some x) × (f x ≡ Some y)
bind_some f None y h = cc
bind_some f (Some x) y h = (x, refl, h)

if_some : {A : Type 0} (b : Bool) (x y : A) → (if b then Some x else None) ≡ Some y → x ≡ y
if_some true x y h = cc
if_some false x y h = cc

-- ---- one table

before_from : (k l : List ℕ) → slice_cmp nat_cmp k l ≡ Greater → IsBefore l k
before_from k l h = nat_list_cmp_total.antisymm l k ∙ ap ordering_reverse h

after_earlier : (k l : List ℕ) (ns : Nodes) → IsBefore k l → KeysAfter l ns → KeysAfter k ns
after_earlier k l no_nodes order h = tt
after_earlier k l (node j x ns) order h = (nat_list_cmp_total.trans k l j order h.0, after_earlier k l ns order h.1)

insert_after : (j k : List ℕ) (x : Node) (ns : Nodes) → IsBefore j k → KeysAfter j ns → KeysAfter j (insert k x ns)
insert_after j k x no_nodes order h = (order, tt)
insert_after j k x (node l y ns) order h = by (slice_cmp nat_cmp k l) (insert_after j k x ns order h.1)
  where
    by : (o : Ordering) → KeysAfter j (insert k x ns) → KeysAfter j (match_ordering o (node k x (node l y ns)) (node l x ns) (node l y (insert k x ns)))
    by Less more = (order, h)
    by Equal more = h
    by Greater more = (h.0, more)

insert_ascends : (k : List ℕ) (x : Node) (ns : Nodes) → NodeAscends x → NodesAscend ns → NodesAscend (insert k x ns)
insert_ascends k x no_nodes good h = (tt, good, tt)
insert_ascends k x (node l y ns) good h = by (slice_cmp nat_cmp k l) refl (insert_ascends k x ns good h.2)
  where
    by : (o : Ordering) → slice_cmp nat_cmp k l ≡ o → NodesAscend (insert k x ns) → NodesAscend (match_ordering o (node k x (node l y ns)) (node l x ns) (node l y (insert k x ns)))
    by Less e more = ((e, after_earlier k l ns e h.0), good, h)
    by Equal e more = (h.0, good, h.2)
    by Greater e more = (insert_after l k x ns (before_from k l e) h.0, h.1, more)

replace_after : (j k : List ℕ) (x : Node) (ns : Nodes) → KeysAfter j ns → KeysAfter j (replace k x ns)
replace_after j k x no_nodes h = h
replace_after j k x (node l y ns) h = by (same_key k l) (replace_after j k x ns h.1)
  where
    by : (b : Bool) → KeysAfter j (replace k x ns) → KeysAfter j (if b then node l x ns else node l y (replace k x ns))
    by true more = h
    by false more = (h.0, more)

replace_ascends : (k : List ℕ) (x : Node) (ns : Nodes) → NodeAscends x → NodesAscend ns → NodesAscend (replace k x ns)
replace_ascends k x no_nodes good h = h
replace_ascends k x (node l y ns) good h = by (same_key k l) (replace_ascends k x ns good h.2)
  where
    by : (b : Bool) → NodesAscend (replace k x ns) → NodesAscend (if b then node l x ns else node l y (replace k x ns))
    by true more = (h.0, good, h.2)
    by false more = (replace_after l k x ns h.0, h.1, more)

got_ascends : (k : List ℕ) (ns : Nodes) (x : Node) → NodesAscend ns → get_node k ns ≡ Some x → NodeAscends x
got_ascends k no_nodes x h e = cc
got_ascends k (node l y ns) x h e = by (same_key k l) (got_ascends k ns x h.2) e
  where
    by : (b : Bool) → (get_node k ns ≡ Some x → NodeAscends x) → (if b then Some y else get_node k ns) ≡ Some x → NodeAscends x
    by true more f = let same : y ≡ x = cc in subst NodeAscends same h.1
    by false more f = more f

-- ---- edits

-- the edit keeps the order
abbrev Keeps : Edit → Type 0
Keeps edit = (ns out : Nodes) → NodesAscend ns → edit ns ≡ Some out → NodesAscend out

within_table : (origin : Origin) (edit : Edit) (inner : Nodes) (y : Node) → Keeps edit → NodesAscend inner → option_map (open_table origin) (edit inner) ≡ Some y → NodeAscends y
within_table origin edit inner y keeps h e =
    let (new, is, made) = map_some (open_table origin) (edit inner) y e in
    subst NodeAscends made (keeps inner new h is)

header_node_keeps : (edit : Edit) (x y : Node) → Keeps edit → NodeAscends x → header_node edit x ≡ Some y → NodeAscends y
header_node_keeps edit (value d) y keeps h e = cc
header_node_keeps edit (open_table origin inner) y keeps h e = within_table origin edit inner y keeps h e
header_node_keeps edit (open_array done last) y keeps h e =
    let (new, is, made) = map_some (open_array done) (edit last) y e in
    subst NodeAscends made tt

dot_node_keeps : (edit : Edit) (x y : Node) → Keeps edit → NodeAscends x → dot_node edit x ≡ Some y → NodeAscends y
dot_node_keeps edit (value d) y keeps h e = cc
dot_node_keeps edit (open_table header inner) y keeps h e = cc
dot_node_keeps edit (open_table implicit inner) y keeps h e = within_table dotted edit inner y keeps h e
dot_node_keeps edit (open_table dotted inner) y keeps h e = within_table dotted edit inner y keeps h e
dot_node_keeps edit (open_array done last) y keeps h e = cc

-- what is made anew at a key, and what is made of the node there
made_keeps : (k : List ℕ) (origin : Origin) (edit : Edit) (ns out : Nodes) → Keeps edit → NodesAscend ns
    → option_map (λ new. insert k (open_table origin new) ns) (edit no_nodes) ≡ Some out → NodesAscend out
made_keeps k origin edit ns out keeps h e =
    let (new, is, made) = map_some (λ (new : Nodes). insert k (open_table origin new) ns) (edit no_nodes) out e in
    subst NodesAscend made (insert_ascends k (open_table origin new) ns (keeps no_nodes new tt is) h)

replaced_keeps : (k : List ℕ) (o : Option Node) (ns out : Nodes) → ((y : Node) → o ≡ Some y → NodeAscends y) → NodesAscend ns
    → option_map (λ new. replace k new ns) o ≡ Some out → NodesAscend out
replaced_keeps k o ns out good h e =
    let (y, is, made) = map_some (λ (new : Node). replace k new ns) o out e in
    subst NodesAscend made (replace_ascends k y ns (good y is) h)

along_header_keeps : (path : List (List ℕ)) (edit : Edit) → Keeps edit → Keeps (along_header path edit)
unfolding along_header
along_header_keeps [] edit keeps ns out h e = keeps ns out h e
along_header_keeps (k ∷ path) edit keeps ns out h e = by (along_header_keeps path edit keeps) (get_node k ns) refl e
  where
    by : Keeps (along_header path edit) → (o : Option Node) → get_node k ns ≡ o → by_header k (along_header path edit) ns o ≡ Some out → NodesAscend out
    by within None at f = made_keeps k implicit (along_header path edit) ns out within h f
    by within (Some x) at f =
        replaced_keeps k (header_node (along_header path edit) x) ns out (λ y is. header_node_keeps (along_header path edit) x y within (got_ascends k ns x h at) is) h f

along_dots_keeps : (path : List (List ℕ)) (edit : Edit) → Keeps edit → Keeps (along_dots path edit)
unfolding along_dots
along_dots_keeps [] edit keeps ns out h e = keeps ns out h e
along_dots_keeps (k ∷ path) edit keeps ns out h e = by (along_dots_keeps path edit keeps) (get_node k ns) refl e
  where
    by : Keeps (along_dots path edit) → (o : Option Node) → get_node k ns ≡ o → by_dot k (along_dots path edit) ns o ≡ Some out → NodesAscend out
    by within None at f = made_keeps k dotted (along_dots path edit) ns out within h f
    by within (Some x) at f =
        replaced_keeps k (dot_node (along_dots path edit) x) ns out (λ y is. dot_node_keeps (along_dots path edit) x y within (got_ascends k ns x h at) is) h f

-- what is defined has a table in order, if it is one
abbrev DefinitionAscends : Definition → Type 0
DefinitionAscends (key_value d) = HasAscendingKeys (Some d)
DefinitionAscends std_table = Unit {0}
DefinitionAscends array_table = Unit {0}

new_ascends : (what : Definition) → DefinitionAscends what → NodeAscends (new_node what)
new_ascends (key_value d) h = h
new_ascends std_table h = tt
new_ascends array_table h = tt

redefined_ascends : (what : Definition) (x y : Node) → NodeAscends x → redefine what x ≡ Some y → NodeAscends y
redefined_ascends std_table (open_table implicit inner) y h e = let same : open_table header inner ≡ y = cc in subst NodeAscends same h
redefined_ascends std_table (open_table dotted inner) y h e = cc
redefined_ascends std_table (open_table header inner) y h e = cc
redefined_ascends std_table (open_array done last) y h e = cc
redefined_ascends std_table (value d) y h e = cc
redefined_ascends array_table (open_array done last) y h e =
    let same : open_array (push_item done (table (close last))) no_nodes ≡ y = cc in subst NodeAscends same tt
redefined_ascends array_table (open_table origin inner) y h e = cc
redefined_ascends array_table (value d) y h e = cc
redefined_ascends (key_value d) x y h e = cc

at_key_keeps : (k : List ℕ) (what : Definition) → DefinitionAscends what → Keeps (at_key k what)
unfolding at_key
at_key_keeps k what good ns out h e = by (get_node k ns) refl e
  where
    by : (o : Option Node) → get_node k ns ≡ o → at_found k what ns o ≡ Some out → NodesAscend out
    by None at f = let same : insert k (new_node what) ns ≡ out = cc in subst NodesAscend same (insert_ascends k (new_node what) ns (new_ascends what good) h)
    by (Some x) at f = replaced_keeps k (redefine what x) ns out (λ y is. redefined_ascends what x y (got_ascends k ns x h at) is) h f

put_keeps : (key : Key) (d : Data) → HasAscendingKeys (Some d) → Keeps (put key d)
put_keeps key d good = along_dots_keeps key.0 (at_key key.1 (key_value d)) (at_key_keeps key.1 (key_value d) good)

-- ---- what the nodes stand for

close_after : (k : List ℕ) (ns : Nodes) → KeysAfter k ns → AllByRecursion (λ l. IsBefore k l) (member_keys (close ns))
close_after k no_nodes h = tt
close_after k (node l x ns) h = (h.0, close_after k ns h.1)

close_ascends : (ns : Nodes) → NodesAscend ns → Ascend (member_keys (close ns))
unfolding IsStrictlySortedBy
close_ascends no_nodes h = tt
close_ascends (node k x ns) h = (close_after k ns h.0, close_ascends ns h.2)

table_ascends : (ms : Members) → Ascend (member_keys ms) → HasAscendingKeys (Some (table ms))
table_ascends ms h found e = let same : ms ≡ found = cc in subst (λ (m : Members). Ascend (member_keys m)) same h

close_node_ascends : (x : Node) → NodeAscends x → HasAscendingKeys (Some (close_node x))
close_node_ascends (value d) h = h
close_node_ascends (open_table origin ns) h = table_ascends (close ns) (close_ascends ns h)
close_node_ascends (open_array done ns) h = λ found e. cc

member_ascends : (k : List ℕ) (ns : Nodes) → NodesAscend ns → HasAscendingKeys (get_member k (close ns))
member_ascends k no_nodes h = λ found e. cc
member_ascends k (node l x ns) h = by (slice_cmp nat_cmp k l) (member_ascends k ns h.2)
  where
    by : (o : Ordering) → HasAscendingKeys (get_member k (close ns)) → HasAscendingKeys (match_ordering o (get_member k (close ns)) (Some (close_node x)) (get_member k (close ns)))
    by Less more = more
    by Equal more = close_node_ascends x h.1
    by Greater more = more

-- ---- what a text writes

-- each value that is read has a table in order, if it is one
abbrev ValuesAscend : (List ℕ → Read Data) → Type 0
ValuesAscend read = (text : List ℕ) (v : Data × List ℕ) → read text ≡ Some v → HasAscendingKeys (Some v.0)

pair_ascends : (read : List ℕ → Read Data) → ValuesAscend read → (text : List ℕ) (e : (Key × Data) × List ℕ) → keyval read text ≡ Some e → HasAscendingKeys (Some e.0.1)
pair_ascends read good text e h =
    let (k, _, h1) = bind_some (λ (k : Key × List ℕ). read_map (λ (d : Data). (k.0, d)) (read k.1)) (key_equals text) e h in
    let (v, is, made) = map_some (λ (p : Data × List ℕ). ((k.0, p.0), p.1)) (read k.1) e h1 in
    subst (λ (p : (Key × Data) × List ℕ). HasAscendingKeys (Some p.0.1)) made (good k.1 v is)

members_ascend : (read : List ℕ → Read Data) → ValuesAscend read → (n : ℕ) (found : Nodes) (text : List ℕ) (out : Members × List ℕ) → NodesAscend found
    → members read n found text ≡ Some out → Ascend (member_keys out.0)
unfolding members
members_ascend read good zero found text out h e = cc
members_ascend read good (suc n) found text out h e = by (λ more rest g. members_ascend read good n more rest out g) (first (skip_blank text) == right_brace) e
  where
    by : ((more : Nodes) (rest : List ℕ) → NodesAscend more → members read n more rest ≡ Some out → Ascend (member_keys out.0))
        → (b : Bool)
        → (if b then Some (close found, drop 1 (skip_blank text))
        else option_and_then (λ e. option_and_then (λ more. option_and_then (members read n more) (after_element right_brace e.1)) (put e.0.0 e.0.1 found)) (keyval read (skip_blank text)))
        ≡ Some out
        → Ascend (member_keys out.0)
    by later true f =
        let same : (close found, drop 1 (skip_blank text)) ≡ out = cc in
        subst (λ (p : Members × List ℕ). Ascend (member_keys p.0)) same (close_ascends found h)
    by later false f =
        let (pair, read_pair, f1) = bind_some _ (keyval read (skip_blank text)) out f in
        let (more, added, f2) = bind_some _ (put pair.0.0 pair.0.1 found) out f1 in
        let (rest, _, f3) = bind_some _ (after_element right_brace pair.1) out f2 in
        later more rest (put_keeps pair.0.0 pair.0.1 (pair_ascends read good (skip_blank text) pair read_pair) found more h added) f3

scalar_ascends : (s : Scalar) → HasAscendingKeys (Some (scalar_data s))
scalar_ascends (Boolean b) found e = cc
scalar_ascends (Integer z) found e = cc
scalar_ascends (Float x) found e = cc
scalar_ascends (Datetime dt) found e = cc

-- what is read, put in f, where f makes a value in order of each
mapped_ascends : {A : Type 0} (f : A → Data) (r : Read A) (v : Data × List ℕ) → ((x : A × List ℕ) → r ≡ Some x → HasAscendingKeys (Some (f x.0))) → read_map f r ≡ Some v → HasAscendingKeys (Some v.0)
mapped_ascends f r v good e =
    let (x, is, made) = map_some (λ p. (f p.0, p.1)) r v e in
    subst (λ (p : Data × List ℕ). HasAscendingKeys (Some p.0)) made (good x is)

atom_ascends : ValuesAscend atom
unfolding atom
atom_ascends text v e = by (starts_string text) e
  where
    by : (b : Bool) → (if b then read_map string (quoted text) else read_map scalar_data (unquoted text)) ≡ Some v → HasAscendingKeys (Some v.0)
    by true f = mapped_ascends string (quoted text) v (λ x is found k. cc) f
    by false f = mapped_ascends scalar_data (unquoted text) v (λ x is. scalar_ascends x.0) f

val_ascends : (depth : ℕ) → ValuesAscend (val depth)
unfolding val
val_ascends zero text v e = atom_ascends text v e
val_ascends (suc depth) text v e = by (val_ascends depth) (first text == left_bracket) (first text == left_brace) e
  where
    by : ValuesAscend (val depth) → (b c : Bool)
        → (if b then read_map array (items (val depth) (length text) no_items (drop 1 text))
        else if c then read_map table (members (val depth) (length text) no_nodes (drop 1 text))
        else atom text) ≡ Some v
        → HasAscendingKeys (Some v.0)
    by within true c f = mapped_ascends array _ v (λ x is found k. cc) f
    by within false true f =
        mapped_ascends table (members (val depth) (length text) no_nodes (drop 1 text)) v
        (λ x is. table_ascends x.0 (members_ascend (val depth) within (length text) no_nodes (drop 1 text) x tt is)) f
    by within false false f = atom_ascends text v f

expression_ascends : (text : List ℕ) (e : Expression × List ℕ) → expression text ≡ Some e → DefinitionAscends e.0.1
unfolding expression
expression_ascends text e h = by (first text == left_bracket && slice_index text 1 == left_bracket) (first text == left_bracket) h
  where
    by : (b c : Bool)
        → (if b then option_and_then (λ (k : Key × List ℕ). option_map (λ rest. ((k.0, array_table), rest)) (after_byte right_bracket k.1)) (header_key (drop 2 text))
        else if c then read_map (λ (k : Key). (k, std_table)) (header_key (drop 1 text))
        else read_map (λ (p : Key × Data). (p.0, key_value p.1)) (keyval (val recursion_limit) text)) ≡ Some e
        → DefinitionAscends e.0.1
    by true c f =
        let (k, _, f1) = bind_some _ (header_key (drop 2 text)) e f in
        let (rest, _, made) = map_some (λ (rest : List ℕ). ((k.0, array_table), rest)) (after_byte right_bracket k.1) e f1 in
        subst (λ (x : Expression × List ℕ). DefinitionAscends x.0.1) made tt
    by false true f =
        let (k, _, made) = map_some (λ (k : Key × List ℕ). ((k.0, std_table), k.1)) (header_key (drop 1 text)) e f in
        subst (λ (x : Expression × List ℕ). DefinitionAscends x.0.1) made tt
    by false false f =
        let (p, is, made) = map_some (λ (p : (Key × Data) × List ℕ). ((p.0.0, key_value p.0.1), p.1)) (keyval (val recursion_limit) text) e f in
        subst (λ (x : Expression × List ℕ). DefinitionAscends x.0.1) made (pair_ascends (val recursion_limit) (val_ascends recursion_limit) text p is)

line_ascends : (text : List ℕ) (e : Expression × List ℕ) → line text ≡ Some e → DefinitionAscends e.0.1
unfolding line
line_ascends text e h =
    let (x, is, h1) = bind_some _ (expression text) e h in
    let same : x ≡ e = if_some (ends_line (skip_ws x.1)) x e h1 in
    subst (λ (y : Expression × List ℕ). DefinitionAscends y.0.1) same (expression_ascends text x is)

-- a root that an edit gives, with a path beside it
root_keeps : (edit : Edit) (root : Nodes) (path : List (List ℕ)) (next : Document) → Keeps edit → NodesAscend root → option_map (λ r. (r, path)) (edit root) ≡ Some next → NodesAscend next.0
root_keeps edit root path next keeps h e =
    let (r, is, made) = map_some (λ (r : Nodes). (r, path)) (edit root) next e in
    subst (λ (d : Document). NodesAscend d.0) made (keeps root r h is)

define_keeps : (doc : Document) (key : Key) (what : Definition) (next : Document) → DefinitionAscends what → NodesAscend doc.0 → define_as doc key what ≡ Some next → NodesAscend next.0
define_keeps doc key (key_value d) next good h e =
    root_keeps (along_header doc.1 (put key d)) doc.0 doc.1 next (along_header_keeps doc.1 (put key d) (put_keeps key d good)) h e
define_keeps doc key std_table next good h e =
    root_keeps (along_header key.0 (at_key key.1 std_table)) doc.0 (key.0 ++ key.1 ∷ []) next (along_header_keeps key.0 (at_key key.1 std_table) (at_key_keeps key.1 std_table tt)) h e
define_keeps doc key array_table next good h e =
    root_keeps (along_header key.0 (at_key key.1 array_table)) doc.0 (key.0 ++ key.1 ∷ []) next (along_header_keeps key.0 (at_key key.1 array_table) (at_key_keeps key.1 array_table tt)) h e

lines_ascend : (n : ℕ) (doc : Document) (text : List ℕ) (out : Document) → NodesAscend doc.0 → lines n doc text ≡ Some out → NodesAscend out.0
unfolding lines define
lines_ascend zero doc text out h e = cc
lines_ascend (suc n) doc text out h e = by (λ next rest g. lines_ascend n next rest out g) (length (skip_blank text) == 0) e
  where
    by : ((next : Document) (rest : List ℕ) → NodesAscend next.0 → lines n next rest ≡ Some out → NodesAscend out.0)
        → (b : Bool)
        → (if b then Some doc else option_and_then (λ (e : Expression × List ℕ). option_and_then (λ next. lines n next e.1) (define_as doc e.0.0 e.0.1)) (line (skip_blank text))) ≡ Some out
        → NodesAscend out.0
    by later true f = let same : doc ≡ out = cc in subst (λ (d : Document). NodesAscend d.0) same h
    by later false f =
        let (e, is, f1) = bind_some _ (line (skip_blank text)) out f in
        let (next, defined, f2) = bind_some _ (define_as doc e.0.0 e.0.1) out f1 in
        later next e.1 (define_keeps doc e.0.0 e.0.1 next (line_ascends (skip_blank text) e is) h defined) f2

parsed_ascends : (bytes : List ℕ) (top : Members) (k : List ℕ) → parse_document bytes ≡ Some top → HasAscendingKeys (get_member k top)
unfolding parse_document
parsed_ascends bytes top k h =
    let (doc, is, made) = map_some (λ (doc : Document). close doc.0) (lines (suc (length bytes)) (no_nodes, []) (skip_bom bytes)) top h in
    subst (λ (ms : Members). HasAscendingKeys (get_member k ms)) made (member_ascends k doc.0 (lines_ascend (suc (length bytes)) (no_nodes, []) (skip_bom bytes) doc tt is))

-- the keys of the table of cells ascend, whatever the bytes
pub cells_ascend : (bytes : List ℕ) → CountsCellsByName bytes
cells_ascend bytes top h = by (is_utf8 bytes) h
  where
    by : (b : Bool) → (if b then parse_document bytes else None) ≡ Some top → HasAscendingKeys (get_member (codes "cell") top)
    by true f = parsed_ascends bytes top (codes "cell") f
    by false f = cc
