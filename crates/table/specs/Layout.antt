-- Where things stand in a table of a capacity, and how many words each takes (docs/LAYOUT.md, "Words"): the same names as in src/layout.rt. Assumes nothing.
use Rattle.std.specs.Prelude.{ℕ, ◌+◌, ◌*◌}

-- the words before the slots
abbrev pub header_width : ℕ
header_width = 64

-- words of a mark, of an arm, and of a record, two arms
abbrev pub mark_width : ℕ
mark_width = 4

abbrev pub arm_width : ℕ
arm_width = 5

abbrev pub record_width : ℕ
record_width = 10

-- words of a main node in a slot: its record, and the arm of its auxiliary tree
abbrev pub node_width : ℕ
node_width = record_width + arm_width

-- words of a slot: its mark, the record of the main node named so, the arm of that node's auxiliary tree
abbrev pub slot_width : ℕ
slot_width = 19

-- words for each slot beside the levels, and in each level
abbrev pub beside_width : ℕ
beside_width = 40

abbrev pub level_width : ℕ
level_width = 24

-- "Word 0 is 1 for an open table, word 1 is C, word 2 the live marks." (document 01, "Marks, boxes, tables")
abbrev pub open_place : ℕ
open_place = 0

abbrev pub capacity_place : ℕ
capacity_place = 1

abbrev pub live_place : ℕ
live_place = 2

-- the arm of the main tree's root
abbrev pub root_place : ℕ
root_place = 3

-- the slot s, the record of the main node named so, and the arm of its auxiliary tree
abbrev pub slot_place : ℕ → ℕ
slot_place s = header_width + slot_width * s

abbrev pub main_place : ℕ → ℕ
main_place name = header_width + mark_width + slot_width * name

abbrev pub auxiliary_place : ℕ → ℕ
auxiliary_place name = header_width + mark_width + record_width + slot_width * name

-- the word i of a column of one word for each slot, with that many columns between it and the slots
abbrev pub column_place : ℕ → ℕ → ℕ → ℕ
column_place before capacity i = header_width + (slot_width + before) * capacity + i

module _ (capacity : ℕ) where
  -- used[i], and place[s]
  abbrev pub used_place : ℕ → ℕ
  used_place i = header_width + slot_width * capacity + i

  abbrev pub place_place : ℕ → ℕ
  place_place s = header_width + (slot_width + 1) * capacity + s

  -- the word i of run A, and of run B
  abbrev pub run_place : ℕ → ℕ
  run_place i = header_width + (slot_width + 2) * capacity + i

  abbrev pub second_run_place : ℕ → ℕ
  second_run_place i = header_width + (slot_width + 3) * capacity + i

  -- the records of the auxiliary trees of depth d
  abbrev pub level_place : ℕ → ℕ
  level_place d = header_width + beside_width * capacity + level_width * (d * capacity)

-- in a level whose records begin at base, the record of the auxiliary node named s
abbrev pub record_place : ℕ → ℕ → ℕ
record_place base name = base + record_width * name

-- the mark k of a list: "lists (four words a mark)" (R-1)
abbrev pub list_place : ℕ → ℕ
list_place k = mark_width * k

-- what a table of a capacity has before its levels: slots, the lists of them and the runs; and the records of one level
abbrev pub slots_end : ℕ → ℕ
slots_end capacity = header_width + slot_width * capacity

abbrev pub runs_end : ℕ → ℕ
runs_end capacity = header_width + (slot_width + 4) * capacity

abbrev pub level_end : ℕ → ℕ → ℕ
level_end base capacity = base + record_width * capacity
