-- Two tables with the same parts are the same.
use Rattle.std.proofs.Common.{◌≡◌, ℕ, Bool, List}
use Rattle.trees.specs.declared.records.UnitRecord.{UnitRecord}
use Rattle.trees.specs.Model.{Entry, Table}

abbrev pub mk : ℕ → Bool → List UnitRecord → List Entry → List ℕ → ℕ → ℕ → ℕ → Table
mk a b us es pool i j k = record { number = a; closed = b; units = us; entries = es; pool = pool; units_left = i; entries_left = j; attributes_left = k }

-- with other entries, and the parts that depend on the records' lengths
pub same_table : {a : ℕ} {b : Bool} {us : List UnitRecord} {es es' : List Entry} {pool : List ℕ} {i j j' k k' : ℕ} → es ≡ es' → j ≡ j' → k ≡ k' → mk a b us es pool i j k ≡ mk a b us es' pool i j' k'
same_table {a = a} {b = b} {us = us} {pool = pool} {i = i} p q r = λ t. record { number = a; closed = b; units = us; entries = p t; pool = pool; units_left = i; entries_left = q t; attributes_left = r t }

-- with other units too
pub same_all : {a : ℕ} {b : Bool} {us us' : List UnitRecord} {es es' : List Entry} {pool : List ℕ} {i i' j j' k k' : ℕ} → us ≡ us' → es ≡ es' → i ≡ i' → j ≡ j' → k ≡ k' → mk a b us es pool i j k ≡ mk a b us' es' pool i' j' k'
same_all {a = a} {b = b} {pool = pool} u p o q r = λ t. record { number = a; closed = b; units = u t; entries = p t; pool = pool; units_left = o t; entries_left = q t; attributes_left = r t }
