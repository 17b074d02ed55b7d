-- `levels` meets its contract: each arm by the rule of the thresholds. Assumes nothing.
use Rattle.std.proofs.Common.{rules}
use Rattle.sizes.proofs.Sizes.{levels_for-none, levels_for-is, levels_for-last}
use Rattle.sizes.proofs.levels.Goals as goal

pub returns-in-2 : goal.returns-in-2
returns-in-2 c = search (rules, levels_for-is 2)

pub returns-in-3 : goal.returns-in-3
returns-in-3 c = search (rules, levels_for-is 3)

pub returns-in-4 : goal.returns-in-4
returns-in-4 c = search (rules, levels_for-is 4)

pub returns-in-5 : goal.returns-in-5
returns-in-5 c = search (rules, levels_for-is 5)

pub returns-in-0-to-1 : goal.returns-in-0-to-1
returns-in-0-to-1 c = search (rules, levels_for-none)

pub returns-in-6-to-7 : goal.returns-in-6-to-7
returns-in-6-to-7 c = search (rules, levels_for-is 6)

pub returns-in-8-to-9 : goal.returns-in-8-to-9
returns-in-8-to-9 c = search (rules, levels_for-is 7)

pub returns-in-10-to-13 : goal.returns-in-10-to-13
returns-in-10-to-13 c = search (rules, levels_for-is 8)

pub returns-in-14-to-17 : goal.returns-in-14-to-17
returns-in-14-to-17 c = search (rules, levels_for-is 9)

pub returns-in-18-to-23 : goal.returns-in-18-to-23
returns-in-18-to-23 c = search (rules, levels_for-is 10)

pub returns-in-24-to-31 : goal.returns-in-24-to-31
returns-in-24-to-31 c = search (rules, levels_for-is 11)

pub returns-in-32-to-42 : goal.returns-in-32-to-42
returns-in-32-to-42 c = search (rules, levels_for-is 12)

pub returns-in-43-to-56 : goal.returns-in-43-to-56
returns-in-43-to-56 c = search (rules, levels_for-is 13)

pub returns-in-57-to-74 : goal.returns-in-57-to-74
returns-in-57-to-74 c = search (rules, levels_for-is 14)

pub returns-in-75-to-99 : goal.returns-in-75-to-99
returns-in-75-to-99 c = search (rules, levels_for-is 15)

pub returns-in-100-to-133 : goal.returns-in-100-to-133
returns-in-100-to-133 c = search (rules, levels_for-is 16)

pub returns-in-134-to-177 : goal.returns-in-134-to-177
returns-in-134-to-177 c = search (rules, levels_for-is 17)

pub returns-in-178-to-236 : goal.returns-in-178-to-236
returns-in-178-to-236 c = search (rules, levels_for-is 18)

pub returns-in-237-to-315 : goal.returns-in-237-to-315
returns-in-237-to-315 c = search (rules, levels_for-is 19)

pub returns-in-316-to-420 : goal.returns-in-316-to-420
returns-in-316-to-420 c = search (rules, levels_for-is 20)

pub returns-in-421-to-560 : goal.returns-in-421-to-560
returns-in-421-to-560 c = search (rules, levels_for-is 21)

pub returns-in-561-to-747 : goal.returns-in-561-to-747
returns-in-561-to-747 c = search (rules, levels_for-is 22)

pub returns-in-748-to-996 : goal.returns-in-748-to-996
returns-in-748-to-996 c = search (rules, levels_for-is 23)

pub returns-in-997-to-1328 : goal.returns-in-997-to-1328
returns-in-997-to-1328 c = search (rules, levels_for-is 24)

pub returns-in-1329-to-1771 : goal.returns-in-1329-to-1771
returns-in-1329-to-1771 c = search (rules, levels_for-is 25)

pub returns-in-1772-to-2362 : goal.returns-in-1772-to-2362
returns-in-1772-to-2362 c = search (rules, levels_for-is 26)

pub returns-in-2363-to-3149 : goal.returns-in-2363-to-3149
returns-in-2363-to-3149 c = search (rules, levels_for-is 27)

pub returns-in-3150-to-4199 : goal.returns-in-3150-to-4199
returns-in-3150-to-4199 c = search (rules, levels_for-is 28)

pub returns-in-4200-to-5599 : goal.returns-in-4200-to-5599
returns-in-4200-to-5599 c = search (rules, levels_for-is 29)

pub returns-in-5600-to-7466 : goal.returns-in-5600-to-7466
returns-in-5600-to-7466 c = search (rules, levels_for-is 30)

pub returns-in-7467-to-9954 : goal.returns-in-7467-to-9954
returns-in-7467-to-9954 c = search (rules, levels_for-is 31)

pub returns-in-9955-to-13273 : goal.returns-in-9955-to-13273
returns-in-9955-to-13273 c = search (rules, levels_for-is 32)

pub returns-in-13274-to-17697 : goal.returns-in-13274-to-17697
returns-in-13274-to-17697 c = search (rules, levels_for-is 33)

pub returns-in-17698-to-23596 : goal.returns-in-17698-to-23596
returns-in-17698-to-23596 c = search (rules, levels_for-is 34)

pub returns-in-23597-to-31462 : goal.returns-in-23597-to-31462
returns-in-23597-to-31462 c = search (rules, levels_for-is 35)

pub returns-in-31463-to-41950 : goal.returns-in-31463-to-41950
returns-in-31463-to-41950 c = search (rules, levels_for-is 36)

pub returns-in-41951-to-55933 : goal.returns-in-41951-to-55933
returns-in-41951-to-55933 c = search (rules, levels_for-is 37)

pub returns-in_default : goal.returns-in_default
returns-in_default c = search (rules, levels_for-last)
