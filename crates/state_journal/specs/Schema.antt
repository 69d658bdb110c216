-- The two tables of a journal.
use Rattle.std.specs.Prelude.{true, false, [], ◌∷◌, Some, None, codes, ℕ}
use Rattle.sqlite.specs.declared.types.Value.TheVariants.{Null}
use Rattle.sqlite.specs.Collation.TheVariants.{Binary}
use Rattle.sqlite.specs.Table.{Table}
use Rattle.sqlite.specs.Schema.{Schema}
use Rattle.sqlite.specs.Kind.TheVariants.{Integer, Any}
use Rattle.sqlite_schema.specs.declared.schema.Index.{Index}
use Rattle.sqlite_value.specs.Keys.{plain}
use Rattle.sqlite_catalog.specs.Listing.{automatic}

abbrev pub no_schema : Schema
no_schema = record { tables = []; indexes = []; views = [] }

-- the trees in which the store keeps the two tables
abbrev pub front_tree : ℕ
front_tree = 0

abbrev pub lra_tree : ℕ
lra_tree = 1

abbrev pub front_table : Table
front_table = record {
  name = codes "front";
  tree = front_tree;
  columns = (record { name = codes "origin"; kind = Integer; is_strict = false; not_null = false; default = Null; collation = Binary })
      ∷ (record { name = codes "held"; kind = Integer; is_strict = false; not_null = true; default = Null; collation = Binary })
      ∷ (record { name = codes "purged"; kind = Integer; is_strict = false; not_null = true; default = Null; collation = Binary }) ∷ [];
  key = Some 0;
  primary = 0 ∷ [];
  uniques = [];
  orders = [];
  checks = [];
  references = [];
  computed = [];
  stamps = record { places = []; terms = []; formats = [] };
  is_counted = false;
}

abbrev pub lra_table : Table
lra_table = record {
  name = codes "lra";
  tree = lra_tree;
  columns = (record { name = codes "home"; kind = Integer; is_strict = false; not_null = true; default = Null; collation = Binary })
      ∷ (record { name = codes "num"; kind = Integer; is_strict = false; not_null = true; default = Null; collation = Binary })
      ∷ (record { name = codes "body"; kind = Any; is_strict = false; not_null = true; default = Null; collation = Binary }) ∷ [];
  key = None;
  primary = 1 ∷ 2 ∷ [];
  uniques = (1 ∷ 2 ∷ []) ∷ [];
  orders = plain ∷ [];
  checks = [];
  references = [];
  computed = [];
  stamps = record { places = []; terms = []; formats = [] };
  is_counted = false;
}

-- the index that SQLite makes for the key of `lra`
abbrev pub lra_index : Index
lra_index = automatic lra_table 0 (1 ∷ 2 ∷ []) 2

abbrev pub front_schema : Schema
front_schema = record { tables = front_table ∷ []; indexes = []; views = [] }

abbrev pub journal_schema : Schema
journal_schema = record { tables = front_table ∷ lra_table ∷ []; indexes = lra_index ∷ []; views = [] }
