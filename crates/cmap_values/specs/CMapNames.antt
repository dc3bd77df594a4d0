-- What contracts see of the name of a CMap: its bytes and its index among the known names.
use Rattle.std.specs.Prelude.{◌≡◌, ℕ, Bool, true, false, List, ◌⊎◌, codes, Option, None, IsTrue}
use Rattle.std.specs.Borrow.{Bor}
use Rattle.cmap_values.specs.Names.{index_of_text}
use Rattle.cmap_values.specs.declared.names.CMapName.{CMapName}
use Rattle.cmap_values.specs.declared.names.CMapName.TheVariants.{N83pvRksjH, N90msRksjH, N90msRksjV, N90mspRksjH, N90mspRksjV, N90pvRksjH, AddRksjH, AddRksjV, AdobeCns1Ucs2, AdobeGb1Ucs2, AdobeJapan1Ucs2, AdobeKorea1Ucs2, B5pcH, B5pcV, CnsEucH, CnsEucV, ETenB5H, ETenB5V, ETenmsB5H, ETenmsB5V, EucH, EucV, ExtRksjH, ExtRksjV, GbEucH, GbEucV, GbkEucH, GbkEucV, Gbk2kH, Gbk2kV, GbkpEucH, GbkpEucV, GbpcEucH, GbpcEucV, H, HKscsB5H, HKscsB5V, IdentityH, IdentityV, KscEucH, KscEucV, KscmsUhcH, KscmsUhcHwH, KscmsUhcHwV, KscmsUhcV, KscpcEucH, UniCnsUcs2H, UniCnsUcs2V, UniCnsUtf16H, UniCnsUtf16V, UniGbUcs2H, UniGbUcs2V, UniGbUtf16H, UniGbUtf16V, UniJisUcs2H, UniJisUcs2HwH, UniJisUcs2HwV, UniJisUcs2V, UniJisUtf16H, UniJisUtf16V, UniKsUcs2H, UniKsUcs2V, UniKsUtf16H, UniKsUtf16V, V, Custom}

-- the text of a name
abbrev pub name_bytes : CMapName → List ℕ
name_bytes N83pvRksjH = codes "83pv-RKSJ-H"
name_bytes N90msRksjH = codes "90ms-RKSJ-H"
name_bytes N90msRksjV = codes "90ms-RKSJ-V"
name_bytes N90mspRksjH = codes "90msp-RKSJ-H"
name_bytes N90mspRksjV = codes "90msp-RKSJ-V"
name_bytes N90pvRksjH = codes "90pv-RKSJ-H"
name_bytes AddRksjH = codes "Add-RKSJ-H"
name_bytes AddRksjV = codes "Add-RKSJ-V"
name_bytes AdobeCns1Ucs2 = codes "Adobe-CNS1-UCS2"
name_bytes AdobeGb1Ucs2 = codes "Adobe-GB1-UCS2"
name_bytes AdobeJapan1Ucs2 = codes "Adobe-Japan1-UCS2"
name_bytes AdobeKorea1Ucs2 = codes "Adobe-Korea1-UCS2"
name_bytes B5pcH = codes "B5pc-H"
name_bytes B5pcV = codes "B5pc-V"
name_bytes CnsEucH = codes "CNS-EUC-H"
name_bytes CnsEucV = codes "CNS-EUC-V"
name_bytes ETenB5H = codes "ETen-B5-H"
name_bytes ETenB5V = codes "ETen-B5-V"
name_bytes ETenmsB5H = codes "ETenms-B5-H"
name_bytes ETenmsB5V = codes "ETenms-B5-V"
name_bytes EucH = codes "EUC-H"
name_bytes EucV = codes "EUC-V"
name_bytes ExtRksjH = codes "Ext-RKSJ-H"
name_bytes ExtRksjV = codes "Ext-RKSJ-V"
name_bytes GbEucH = codes "GB-EUC-H"
name_bytes GbEucV = codes "GB-EUC-V"
name_bytes GbkEucH = codes "GBK-EUC-H"
name_bytes GbkEucV = codes "GBK-EUC-V"
name_bytes Gbk2kH = codes "GBK2K-H"
name_bytes Gbk2kV = codes "GBK2K-V"
name_bytes GbkpEucH = codes "GBKp-EUC-H"
name_bytes GbkpEucV = codes "GBKp-EUC-V"
name_bytes GbpcEucH = codes "GBpc-EUC-H"
name_bytes GbpcEucV = codes "GBpc-EUC-V"
name_bytes H = codes "H"
name_bytes HKscsB5H = codes "HKscs-B5-H"
name_bytes HKscsB5V = codes "HKscs-B5-V"
name_bytes IdentityH = codes "Identity-H"
name_bytes IdentityV = codes "Identity-V"
name_bytes KscEucH = codes "KSC-EUC-H"
name_bytes KscEucV = codes "KSC-EUC-V"
name_bytes KscmsUhcH = codes "KSCms-UHC-H"
name_bytes KscmsUhcHwH = codes "KSCms-UHC-HW-H"
name_bytes KscmsUhcHwV = codes "KSCms-UHC-HW-V"
name_bytes KscmsUhcV = codes "KSCms-UHC-V"
name_bytes KscpcEucH = codes "KSCpc-EUC-H"
name_bytes UniCnsUcs2H = codes "UniCNS-UCS2-H"
name_bytes UniCnsUcs2V = codes "UniCNS-UCS2-V"
name_bytes UniCnsUtf16H = codes "UniCNS-UTF16-H"
name_bytes UniCnsUtf16V = codes "UniCNS-UTF16-V"
name_bytes UniGbUcs2H = codes "UniGB-UCS2-H"
name_bytes UniGbUcs2V = codes "UniGB-UCS2-V"
name_bytes UniGbUtf16H = codes "UniGB-UTF16-H"
name_bytes UniGbUtf16V = codes "UniGB-UTF16-V"
name_bytes UniJisUcs2H = codes "UniJIS-UCS2-H"
name_bytes UniJisUcs2HwH = codes "UniJIS-UCS2-HW-H"
name_bytes UniJisUcs2HwV = codes "UniJIS-UCS2-HW-V"
name_bytes UniJisUcs2V = codes "UniJIS-UCS2-V"
name_bytes UniJisUtf16H = codes "UniJIS-UTF16-H"
name_bytes UniJisUtf16V = codes "UniJIS-UTF16-V"
name_bytes UniKsUcs2H = codes "UniKS-UCS2-H"
name_bytes UniKsUcs2V = codes "UniKS-UCS2-V"
name_bytes UniKsUtf16H = codes "UniKS-UTF16-H"
name_bytes UniKsUtf16V = codes "UniKS-UTF16-V"
name_bytes V = codes "V"
name_bytes (Custom bytes) = bytes.now

-- the index of a name among the known names; a custom name has none
abbrev pub index_of_name : CMapName → Option ℕ
index_of_name (Custom bytes) = None
index_of_name name = index_of_text (name_bytes name)

abbrev pub is_custom : CMapName → Bool
is_custom (Custom bytes) = true
is_custom name = false

-- the name of a text; the name is custom only if every name with this text is custom
abbrev pub IsNameOf : List ℕ → CMapName → Type 0
IsNameOf text name = (name_bytes name ≡ text) × (IsTrue (is_custom name) → (other : CMapName) → name_bytes other ≡ text → IsTrue (is_custom other))

-- the same name, wherever in memory the text of a custom name lies
abbrev pub IsSameName : CMapName → CMapName → Type 0
IsSameName name other = (name ≡ other) ⊎ ((text same : Bor (List ℕ)) × (name ≡ Custom text) × (other ≡ Custom same) × (text.now ≡ same.now))
